-- What a channel's calls keep of its two ends, and what its opens give.
-- Assumes nothing.
use Prim.Native.Nat.{ℕ}
use mathlib.Core.Path.{◌≡◌, refl, ap, ◌∙◌}
use mathlib.Core.Bool.{false}
use mathlib.Core.List.{List, [], ◌∷◌}
use Rattle.answers.specs.Table.{first}
use Rattle.answers.specs.Refusal as Refusal
use Rattle.answers.proofs.Given.{given_ok}
use Rattle.answers.proofs.Table.{row_passed}
use Rattle.record.specs.declared.setting.Setting.{Setting}
use Rattle.record.specs.Setting.{bad_setting, open_rows}
use Rattle.channel.specs.Call.{Call}
use Rattle.channel.specs.Receiver.{look, state_after, new_receiver, zero_receiver, open_receiver}
use Rattle.channel.specs.Rules.{outcome}
use Rattle.channel.specs.Sender.{build_of, change_sender, new_sender, zero_sender, open_sender}
use Rattle.channel.specs.declared.receiver.Receiver.{Receiver}
use Rattle.channel.specs.declared.ffi.Built.{Built}
use Rattle.channel.specs.declared.sender.Sender.{Sender}
use Rattle.channel.specs.declared.ffi.SenderStep.{SenderStep}
use Rattle.channel.specs.declared.ffi.ReceiverStep.{ReceiverStep}
use Rattle.promises.proofs.Sealed.{kept_setting}
use Rattle.promises.proofs.Sends.{Builds, builds, Turns, turns}
use Rattle.promises.proofs.Sends as Sends
use Rattle.promises.specs.Run.{after_by, reach_by, reached}

-- ---- a channel's calls keep the settings of its ends

pub receiver_setting : (r : Receiver) (c : Call) → (state_after r c).setting ≡ r.setting
unfolding state_after
receiver_setting r c = kept_setting r (outcome (look r) c).effect

built_setting : {s : Sender} {b : Built} → Builds s b → b.next.setting ≡ s.setting
built_setting (Sends.Builds.granted e n x) = rw x
built_setting (Sends.Builds.kept e x) = rw x

pub build_setting : (s : Sender) (p q room : ℕ) → (build_of s p q room).next.setting ≡ s.setting
build_setting s p q room = built_setting (builds s p q room)

turned_setting : {s : Sender} {iv : List ℕ} {t : SenderStep} → Turns s iv t → t.next.setting ≡ s.setting
turned_setting (Sends.Turns.granted e x) = rw x
turned_setting (Sends.Turns.kept e x) = rw x

pub turn_setting : (s : Sender) (iv : List ℕ) → (change_sender s iv).next.setting ≡ s.setting
turn_setting s iv = turned_setting (turns s iv)

pub reached_setting : (r : Receiver) (cs : List Call) → (reached r cs).setting ≡ r.setting
unfolding reach_by after_by state_after
reached_setting r [] = refl
reached_setting r (c ∷ cs) = reached_setting (state_after r c) cs ∙ receiver_setting r c

-- ---- its opens

-- a granted open gives new ends
pub new_receiver_lem : (s : Setting) (iv : List ℕ) → first (open_rows s) ≡ 0 → (open_receiver s iv).next ≡ new_receiver s iv
new_receiver_lem s iv e = ap (λ (x : ReceiverStep). x.next) (given_ok _ (λ why. record { answer = why; next = zero_receiver }) (first (open_rows s)) e)

pub new_sender_lem : (s : Setting) (iv : List ℕ) → first (open_rows s) ≡ 0 → (open_sender s iv).next ≡ new_sender s iv
new_sender_lem s iv e = ap (λ (x : SenderStep). x.next) (given_ok _ (λ why. record { answer = why; next = zero_sender }) (first (open_rows s)) e)

-- and its setting is good
pub granted_good : (s : Setting) → first (open_rows s) ≡ 0 → bad_setting s ≡ false
unfolding open_rows
granted_good s e = row_passed Refusal.setting (open_rows s) tt e

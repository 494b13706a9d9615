-- Each call of a sender and a receiver answers k exactly where k's reason of page 01 holds and none before it does, and 0 exactly where
-- none holds.
-- Assumes nothing.
use Prim.Native.Nat.{ℕ}
use mathlib.Core.List.{List}
use mathlib.Core.Path.{refl, sym}
use Rattle.answers.specs.Table.{first}
use Rattle.answers.specs.Reasons.{Tells, Told, Decided}
use Rattle.answers.proofs.Reasons.{told_row, told_join, decided}
use Rattle.answers.proofs.Tests.{tells_false, tells_true, tells_lt, tells_eq, tells_not, tells_or, tells_and, tells_differ}
use Rattle.answers.proofs.Given.{why_is}
use Rattle.numbers.proofs.Told.{number_told, unsound_told}
use Rattle.record.specs.declared.setting.Setting.{Setting}
use Rattle.record.specs.Setting.{rule_of, open_rows}
use Rattle.record.specs.Read.{record_rows, place_rows}
use Rattle.record.specs.Write.{form_rows}
use Rattle.record.specs.Reasons.{open_reasons, record_reasons, form_reasons}
use Rattle.record.proofs.Told.{bad_setting_lem, open_told, record_told, form_told, room_told, inner_told}
use Rattle.channel.specs.declared.receiver.Receiver.{Receiver}
use Rattle.channel.specs.declared.ffi.ReceiverStep.{ReceiverStep}
use Rattle.channel.specs.declared.sender.Sender.{Sender}
use Rattle.channel.specs.declared.ffi.SenderStep.{SenderStep}
use Rattle.channel.specs.declared.ffi.Built.{Built}
use Rattle.channel.specs.View.{no_key}
use Rattle.channel.specs.Call.{Call, offer, settle, gaps, change_key, drop_old}
use Rattle.channel.specs.Rules.{state_rows, slot_rows, place_rows_at, offer_rows, cipher_rows, marking_rows, rows}
use Rattle.channel.specs.Receiver.{new_receiver, zero_receiver, bad_receiver, look, answer_to, open_receiver}
use Rattle.channel.specs.Sender.{new_sender, zero_sender, bad_sender, sender_rows, build_rows, change_rows, open_sender, no_build, built, build_of, turn_to, change_sender}
use Rattle.channel.specs.Reasons.{BadReceiver, BadSender, slot_reasons, place_reasons, offer_reasons, reasons, build_reasons, change_reasons}
use Rattle.channel.proofs.Outcome.{code_of}
use Rattle.channel.proofs.Zeros.{TypedKey, zero_key_lem}

-- ---- State

pub bad_receiver_lem : (r : Receiver) → TypedKey r.old → Tells (bad_receiver r) (BadReceiver r)
unfolding bad_receiver
bad_receiver_lem r t =
    tells_or (bad_setting_lem r.setting)
    (tells_or (unsound_told (rule_of r.setting) r.current.window)
    (tells_or (unsound_told (rule_of r.setting) r.old.window)
    (tells_or (tells_and (tells_false r.held) (tells_not (zero_key_lem r.old t)))
    (tells_and (tells_true r.held) (tells_eq _ _)))))

pub bad_sender_lem : (s : Sender) → Tells (bad_sender s) (BadSender s)
unfolding bad_sender
bad_sender_lem s = tells_or (bad_setting_lem s.setting) (tells_lt _ _)

-- ---- the receiver's tables

module _ (r : Receiver) (t : TypedKey r.old) where
  state_told : Tells (look r).bad (BadReceiver r)
  unfolding look
  state_told = bad_receiver_lem r t

  slot_told : (slot : ℕ) → Told (slot_rows (look r) slot) (slot_reasons r slot)
  unfolding slot_rows state_rows no_key look
  slot_told slot =
      (told_row (bad_receiver_lem r t), (told_row (tells_or (tells_lt _ _) (tells_and (tells_eq _ _) (tells_false _))), tt))

  place_told : (rec : List ℕ) (slot : ℕ) → Told (place_rows_at (look r) rec slot) (place_reasons r rec slot)
  unfolding place_rows look
  place_told rec slot = number_told _ _ _ _ _

  offer_told : (rec : List ℕ) (slot : ℕ) → Told (offer_rows (look r) rec slot) (offer_reasons r rec slot)
  unfolding offer_rows look
  offer_told rec slot =
      told_join (slot_rows (look r) slot) _ (slot_reasons r slot) _ (slot_told slot)
      (told_join (record_rows r.setting rec) _ (record_reasons r.setting rec) _ (record_told r.setting rec) (place_told rec slot))

  pub rows_told : (c : Call) → Told (rows (look r) c) (reasons r c)
  unfolding rows state_rows cipher_rows marking_rows look
  rows_told (offer rec slot) = offer_told rec slot
  rows_told (settle rec slot count number passed plain) =
      told_join (offer_rows (look r) rec slot) _ (offer_reasons r rec slot) _ (offer_told rec slot) (
        told_row (tells_or (tells_differ _ _) (tells_differ _ _)),
        (told_row (tells_differ _ _), (told_row (tells_not (tells_true passed)), (told_row (inner_told r.setting rec plain), tt))),
      )
  rows_told (gaps slot) = slot_told slot
  rows_told (change_key iv) = (told_row (bad_receiver_lem r t), (told_row (tells_true _), (told_row (tells_eq _ _), tt)))
  rows_told drop_old = (told_row (bad_receiver_lem r t), (told_row (tells_not (tells_true _)), tt))

  -- Offer, Settle, Gaps, the receiver's key change and Drop
  pub call_decided : (c : Call) → Decided (answer_to r c).code (reasons r c)
  call_decided c = decided (rows (look r) c) (reasons r c) (rows_told c) _ (code_of r c)

pub open_receiver_decided : (s : Setting) (iv : List ℕ) → Decided (open_receiver s iv).answer (open_reasons s)
open_receiver_decided s iv =
    decided (open_rows s) (open_reasons s) (open_told s) _
    (sym (why_is (λ (x : ReceiverStep). x.answer) (record { answer = 0; next = new_receiver s iv }) (λ why. record { answer = why; next = zero_receiver })
    refl (λ k. refl) (open_receiver s iv) (first (open_rows s)) refl))

-- ---- the sender's calls

pub open_sender_decided : (s : Setting) (iv : List ℕ) → Decided (open_sender s iv).answer (open_reasons s)
open_sender_decided s iv =
    decided (open_rows s) (open_reasons s) (open_told s) _
    (sym (why_is (λ (x : SenderStep). x.answer) (record { answer = 0; next = new_sender s iv }) (λ why. record { answer = why; next = zero_sender })
    refl (λ k. refl) (open_sender s iv) (first (open_rows s)) refl))

module _ (s : Sender) where
  pub build_told : (p q room : ℕ) → Told (build_rows s p q room) (build_reasons s p q room)
  unfolding build_rows sender_rows
  build_told p q room = (
    told_row (bad_sender_lem s),
    (
      told_row (tells_eq _ _),
      told_join (form_rows s.setting p q) _ (form_reasons s.setting p q) _ (form_told s.setting p q) (room_told s.setting p q room),
    ),
  )

  pub build_decided : (p q room : ℕ) → Decided (build_of s p q room).answer (build_reasons s p q room)
  unfolding build_of
  build_decided p q room =
      decided (build_rows s p q room) (build_reasons s p q room) (build_told p q room) _
      (sym (why_is (λ (x : Built). x.answer) (built s p q) (no_build s) refl (λ k. refl) (build_of s p q room) (first (build_rows s p q room)) refl))

  pub change_told : Told (change_rows s) (change_reasons s)
  unfolding change_rows sender_rows
  change_told = (told_row (bad_sender_lem s), (told_row (tells_eq _ _), tt))

  pub change_sender_decided : (iv : List ℕ) → Decided (change_sender s iv).answer (change_reasons s)
  unfolding change_sender
  change_sender_decided iv =
      decided (change_rows s) (change_reasons s) change_told _
      (sym (why_is (λ (x : SenderStep). x.answer) (record { answer = 0; next = turn_to s iv }) (λ why. record { answer = why; next = s })
      refl (λ k. refl) (change_sender s iv) (first (change_rows s)) refl))

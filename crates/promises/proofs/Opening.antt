-- A refused open, of a sender or a receiver, answers 2 and zeros; an open that is granted gives a good state.
-- Assumes nothing.
use Prim.Native.Nat.{ℕ, ◌≤◌}
use mathlib.Core.Path.{◌≡◌, refl}
use mathlib.Core.Logic.{◌≢◌}
use mathlib.Core.Bool.{Bool, true, false}
use mathlib.Core.List.{List, map}
use native.Mathlib.Omega.{arith}
use Rattle.answers.specs.Refusal as Refusal
use Rattle.channel.proofs.Zeros.{zeros_bad_receiver}
use Rattle.channel.specs.Call.{Call, only}
use Rattle.channel.specs.Receiver.{zero_receiver, bad_receiver, look, change, open_receiver}
use Rattle.channel.specs.Sender.{new_sender, zero_sender, bad_sender, open_sender}
use Rattle.record.specs.Setting.{bad_setting, open_rows}
use Rattle.record.specs.declared.setting.Setting.{Setting}
use Rattle.promises.specs.Run.{answers_of}
use Rattle.promises.proofs.Good.{good_whole, good_open}
use Rattle.promises.proofs.Sending.{sender_whole}
use Rattle.promises.proofs.Simulation.{bad_answers}

module _ (s : Setting) (iv : List ℕ) where
  -- a refused open of a receiver answers 2 and zeros
  pub refused_open_receiver : (open_receiver s iv).answer ≢ 0 → open_receiver s iv ≡ record { answer = Refusal.setting; next = zero_receiver }
  unfolding open_rows
  refused_open_receiver = go (bad_setting s) refl
    where
      go : (b : Bool) → bad_setting s ≡ b → (open_receiver s iv).answer ≢ 0 → open_receiver s iv ≡ record { answer = Refusal.setting; next = zero_receiver }
      go true e = rw e (λ h. refl)
      go false e = rw e (λ h. absurd (h refl))

  -- a refused open of a sender likewise
  pub refused_open_sender : (open_sender s iv).answer ≢ 0 → open_sender s iv ≡ record { answer = Refusal.setting; next = zero_sender }
  unfolding open_rows
  refused_open_sender = go (bad_setting s) refl
    where
      go : (b : Bool) → bad_setting s ≡ b → (open_sender s iv).answer ≢ 0 → open_sender s iv ≡ record { answer = Refusal.setting; next = zero_sender }
      go true e = rw e (λ h. refl)
      go false e = rw e (λ h. absurd (h refl))

  -- every answer of an open is 0 or a number of the list
  pub opens_within : ((open_receiver s iv).answer ≤ Refusal.largest) × ((open_sender s iv).answer ≤ Refusal.largest)
  unfolding open_rows
  opens_within = go (bad_setting s) refl
    where
      go : (b : Bool) → bad_setting s ≡ b → ((open_receiver s iv).answer ≤ Refusal.largest) × ((open_sender s iv).answer ≤ Refusal.largest)
      go true e = rw e (omega arith, omega arith)
      go false e = rw e (omega arith, omega arith)

  -- an open that is granted gives a good receiver
  pub opens_good_receiver : (open_receiver s iv).answer ≡ 0 → bad_receiver (open_receiver s iv).next ≡ false
  unfolding open_rows
  opens_good_receiver = go (bad_setting s) refl
    where
      go : (b : Bool) → bad_setting s ≡ b → (open_receiver s iv).answer ≡ 0 → bad_receiver (open_receiver s iv).next ≡ false
      go true e = rw e (λ h. absurd (omega arith))
      go false e = λ h. good_whole _ (good_open s iv e)

  -- and a good sender
  pub opens_good_sender : (open_sender s iv).answer ≡ 0 → bad_sender (open_sender s iv).next ≡ false
  unfolding open_rows
  opens_good_sender = go (bad_setting s) refl
    where
      go : (b : Bool) → bad_setting s ≡ b → (open_sender s iv).answer ≡ 0 → bad_sender (open_sender s iv).next ≡ false
      go true e = rw e (λ h. absurd (omega arith))
      go false e = rw e (λ h. sender_whole (new_sender s iv) e (omega arith))

-- over any run from the zeros every call of a receiver answers State (Zeros of channel has the single calls, and the sender's)
pub zeros_for_ever : (calls : List Call) → answers_of zero_receiver calls ≡ map (λ c. only Refusal.state) calls
unfolding look change
zeros_for_ever calls = bad_answers look change zero_receiver refl zeros_bad_receiver calls

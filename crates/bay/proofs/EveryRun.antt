-- Any run of a channel is one of a row.
-- Assumes nothing.
use Prim.Native.Nat.{ℕ}
use mathlib.Core.Path.{◌≡◌, refl, sym, ap, ◌∙◌}
use mathlib.Core.Bool.{true, false, not}
use mathlib.Core.List.{List, [], ◌∷◌}
use Rattle.answers.specs.Refusal as Refusal
use Rattle.answers.proofs.Table.{row_passed}
use Rattle.record.specs.Setting.{bad_setting, open_rows}
use Rattle.record.specs.declared.setting.Setting.{Setting}
use Rattle.channel.specs.Call.{Call}
use Rattle.promises.specs.Examples.{iv}
use Rattle.promises.specs.World.{Step, World}
use Rattle.promises.specs.World as World
use Rattle.rows.specs.Ends.{Ends}
use Rattle.controller.specs.Table.{row_at}
use Rattle.controller.specs.Doors.{number, new_rows}
use Rattle.controller.specs.Calls.{enter, receive, open_in, table_after}
use Rattle.bay.specs.Reach.{reaches}
use Rattle.bay.specs.Reasons.{Clash}
use Rattle.bay.specs.RowRun.{call_of, closes, StaysOpen, new_row, opened}
use Rattle.bay.specs.Peer.{through_row, calls_in, steps_to}
use Rattle.bay.proofs.Tests.{told_false, told_true}
use Rattle.bay.proofs.Free.{set_open}
use Rattle.bay.proofs.Answering.{open_code}
use Rattle.bay.proofs.Told.{clash_told}
use Rattle.bay.proofs.Apart.{call_fine}
use Rattle.bay.proofs.OneRow.{new_row_good, stays_good}
use Rattle.bay.proofs.Reaching.{number_reaches}

module _ (i : ℕ) where
  -- by its number an open row is reached
  through : (t : List Ends) → (Clash t → ⊥) → bad_setting (row_at t i).receiver.setting ≡ false → (c : Call) → reaches i t (receive (number i) c) ≡ true
  through t f g c = told_true (number_reaches i t (told_false (clash_told t) f) c i) (refl, ap not (set_open (row_at t i) g))

  all_through : (t : List Ends) → (Clash t → ⊥) → bad_setting (row_at t i).receiver.setting ≡ false → (steps : List Step)
      → (steps_to i t (through_row i steps) ≡ steps) × StaysOpen i t (calls_in (through_row i steps))
  unfolding through_row steps_to calls_in call_of closes
  all_through t f g [] = (refl, tt)
  all_through t f g (World.build app random out ∷ rest) =
      let h = all_through t f g rest in (ap (λ (l : List Step). World.build app random out ∷ l) h.0, h.1)
  all_through t f g (World.turn iv ∷ rest) = let h = all_through t f g rest in (ap (λ (l : List Step). World.turn iv ∷ l) h.0, h.1)
  all_through t f g (World.seal j ∷ rest) = let h = all_through t f g rest in (ap (λ (l : List Step). World.seal j ∷ l) h.0, h.1)
  all_through t f g (World.receive c ∷ rest) =
      let h = all_through (table_after t (receive (number i) c)) (call_fine t f (receive (number i) c)) (stays_good i t (receive (number i) c) g refl) rest in
      (rw (through t f g c) (ap (λ (l : List Step). World.receive c ∷ l) h.0), (refl, h.1))

-- any run of a channel is one of a row that was opened for it
pub every_run : (t : List Ends) (s : Setting) (iv iw : List ℕ) → (open_in t s).0 ≡ 0 → (steps : List Step)
    → (steps_to (new_row t s) (opened t s iv iw) (through_row (new_row t s) steps) ≡ steps)
    × StaysOpen (new_row t s) (opened t s iv iw) (calls_in (through_row (new_row t s) steps))
unfolding new_rows open_rows
every_run t s iv iw z =
    all_through (new_row t s) (opened t s iv iw)
    (call_fine t ((clash_told t).fails (row_passed Refusal.state (new_rows t s) tt (sym (open_code t s) ∙ z))) (enter s iv iw)) (new_row_good t s iv iw z)

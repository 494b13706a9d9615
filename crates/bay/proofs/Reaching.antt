-- Which calls reach a row, in words, in a table with no clash.
-- Assumes nothing.
use Prim.Native.Nat.{ℕ, ◌≤◌}
use mathlib.Core.Path.{◌≡◌, refl, sym, ap, ◌∙◌}
use mathlib.Core.Bool.{true, false, not}
use mathlib.Core.List.{List}
use lib.ListN.{length}
use borrow.Author.Tests.{not-true, eq-eqb, le-ltb}
use Rattle.answers.specs.Reasons.{Tells}
use Rattle.channel.specs.Call.{Call}
use Rattle.rows.specs.Ends.{Ends, is_free, is_open}
use Rattle.controller.specs.Table.{row_at, clashes}
use Rattle.record.specs.Shape.{shortest}
use Rattle.controller.specs.Doors.{session, number, id_in, place, door_rows}
use Rattle.controller.specs.Calls.{receive}
use Rattle.bay.specs.Reach.{target, checks_of, reaches}
use Rattle.bay.specs.Reasons.{Open, Has}
use Rattle.bay.proofs.Tests.{tells_both}
use Rattle.bay.proofs.Through.{door_open, session_through}
use Rattle.bay.proofs.Told.{clash_told}
use Rattle.bay.proofs.Apart.{delivers, some_has}
use Rattle.bay.proofs.OneRow.{reach_parts}

module _ (i : ℕ) (t : List Ends) (f : clashes t ≡ false) (c : Call) where
  -- by number: it is the row's, and the row is open
  pub number_reaches : (j : ℕ) → Tells (reaches i t (receive (number j) c)) ((j ≡ i) × Open (row_at t i))
  unfolding reaches checks_of target door_rows place
  number_reaches j = tells_both reached back
    where
      reached : reaches i t (receive (number j) c) ≡ true → (j ≡ i) × Open (row_at t i)
      reached h = let p = reach_parts i t (receive (number j) c) h in (p.1, ap (λ (k : ℕ). is_open (row_at t k)) (sym p.1) ∙ ap not (door_open t (number j) p.0))

      back : (j ≡ i) × Open (row_at t i) → reaches i t (receive (number j) c) ≡ true
      back h = ap (λ (k : ℕ). reaches i t (receive (number k) c)) h.0 ∙ rw (f, not-true (is_free (row_at t i)) h.1) (eq-eqb i i refl)

  -- by Session ID: the record has a header's length at least and the row's Session ID, and the row is open
  pub session_reaches : (r : List ℕ) → Tells (reaches i t (receive (session r) c)) ((shortest ≤ length r) × Has (id_in r) (row_at t i))
  unfolding reaches checks_of target door_rows
  session_reaches r = tells_both reached back
    where
      reached : reaches i t (receive (session r) c) ≡ true → (shortest ≤ length r) × Has (id_in r) (row_at t i)
      reached h = let p = reach_parts i t (receive (session r) c) h in let q = session_through t r p.0 in (q.0, rw p.1 at q.1)

      back : (shortest ≤ length r) × Has (id_in r) (row_at t i) → reaches i t (receive (session r) c) ≡ true
      back h = rw (f, le-ltb (length r) shortest h.0, some_has t (id_in r) i h.1) (eq-eqb _ i (delivers t ((clash_told t).fails f) i r h.1.0 h.1.1))

-- A call on its way to a row: what each test on the way makes of it.
-- Assumes nothing.
use Prim.Native.Nat.{ℕ, zero, suc}
use mathlib.Core.Bool.{true, false}
use mathlib.Core.List.{List, [], ◌∷◌}
use mathlib.Core.Path.{◌≡◌, refl, sym, ap, ◌∙◌}
use lib.Dec.{T, ltb}
use lib.ListN.{length, set}
use Rattle.answers.specs.Refusal as Refusal
use Rattle.answers.specs.Refusal.{authentic, marks}
use Rattle.answers.specs.Table.{first}
use Rattle.answers.proofs.Given.{why_is, ok_is}
use Rattle.answers.proofs.Table.{unmarking}
use Rattle.rows.specs.Ends.{Ends, is_free, ends_of}
use Rattle.controller.specs.Words.{Reached}
use Rattle.controller.specs.Table.{some, lowest, has, clashes}
use Rattle.record.specs.Shape.{shortest}
use Rattle.controller.specs.Doors.{Door, session, number, id_in, place, door_rows}
use Rattle.controller.specs.Calls.{row_to}
use Rattle.controller.specs.Words.{no_row, reached_in, rows_of, words_at}
use Rattle.controller.proofs.Scanning.{row_at_lem}

-- the row at i, as it is reached
abbrev pub row_found : List (List ℕ) → ℕ → Reached
row_found w i = record { answer = 0; at = i; row = record { words = words_at w i } }

module _ (w : List (List ℕ)) (r : List ℕ) where
  pub session_clash : clashes (rows_of w) ≡ true → no_row Refusal.state ≡ reached_in w (session r)
  unfolding reached_in door_rows
  session_clash bad = rw bad refl

  pub session_short : clashes (rows_of w) ≡ false → ltb (length r) shortest ≡ true → no_row Refusal.short ≡ reached_in w (session r)
  unfolding reached_in door_rows
  session_short bad short = rw (bad, short) refl

  pub session_unknown : clashes (rows_of w) ≡ false → ltb (length r) shortest ≡ false → some (has (id_in r)) (rows_of w) ≡ false
      → no_row Refusal.unknown ≡ reached_in w (session r)
  unfolding reached_in door_rows
  session_unknown bad short none = rw (bad, short, none) refl

  pub session_found : clashes (rows_of w) ≡ false → ltb (length r) shortest ≡ false → some (has (id_in r)) (rows_of w) ≡ true
      → (at : ℕ) → at ≡ lowest (has (id_in r)) (rows_of w) → row_found w at ≡ reached_in w (session r)
  unfolding reached_in door_rows place
  session_found bad short found at e = rw (bad, short, found, e) refl

module _ (w : List (List ℕ)) (i : ℕ) where
  pub number_clash : clashes (rows_of w) ≡ true → no_row Refusal.state ≡ reached_in w (number i)
  unfolding reached_in door_rows
  number_clash bad = rw bad refl

  pub number_unknown : clashes (rows_of w) ≡ false → is_free (ends_of (words_at w i)) ≡ true → no_row Refusal.unknown ≡ reached_in w (number i)
  unfolding reached_in door_rows
  number_unknown bad free = rw (bad, row_at_lem w i, free) refl

  pub number_found : clashes (rows_of w) ≡ false → is_free (ends_of (words_at w i)) ≡ false → row_found w i ≡ reached_in w (number i)
  unfolding reached_in door_rows place
  number_found bad free = rw (bad, row_at_lem w i, free) refl

-- a row of words put into the table is a row put into it
pub rows_set : (w : List (List ℕ)) (i : ℕ) (x : List ℕ) → rows_of (set w i x) ≡ set (rows_of w) i (ends_of x)
rows_set [] i x = refl
rows_set (y ∷ w) zero x = refl
rows_set (y ∷ w) (suc i) x = ap (λ (t : List Ends). ends_of y ∷ t) (rows_set w i x)

-- no refusal on the way to a row marks
pub door_unmarking : (t : List Ends) (d : Door) → T (unmarking (door_rows t d))
unfolding door_rows authentic marks
door_unmarking t (session r) = tt
door_unmarking t (number i) = tt

-- ---- what the way to the row found

module _ (w : List (List ℕ)) (d : Door) (to : Reached) (e : to ≡ reached_in w d) where
  abbrev t : List Ends
  t = rows_of w

  pub door_why : first (door_rows t d) ≡ to.answer
  unfolding reached_in
  door_why = why_is (λ (x : Reached). x.answer) (row_found w (place t d)) no_row refl (λ k. refl) to (first (door_rows t d)) e

  pub door_found : to.answer ≡ 0 → to ≡ row_found w (place t d)
  unfolding reached_in
  door_found h = ok_is (λ (x : Reached). x.answer) (row_found w (place t d)) no_row refl (λ k. refl) to (first (door_rows t d)) e h

  pub ends_found : to.answer ≡ 0 → ends_of to.row.words ≡ row_to t d
  ends_found h = ap (λ (x : Reached). ends_of x.row.words) (door_found h) ∙ sym (row_at_lem w (place t d))

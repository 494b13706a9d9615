-- What the table's own checks let through: a call by a door finds an open row, and Open a free one.
-- Assumes nothing.
use Prim.Native.Nat.{ℕ, ◌≤◌, ◌<◌}
use mathlib.Core.Path.{◌≡◌}
use mathlib.Core.Bool.{true, false}
use mathlib.Core.List.{List}
use lib.Dec.{T}
use lib.ListN.{length}
use borrow.Author.Tests.{not-true, not-false, ltb-false}
use Rattle.answers.specs.Reasons.{Tells}
use Rattle.answers.specs.Refusal as Refusal
use Rattle.answers.specs.Table.{first}
use Rattle.answers.proofs.Table.{numbered, unmarking, first_unmarking, test_of, row_passed}
use Rattle.answers.proofs.Tests.{tells_true, tells_eq, tells_and}
use Rattle.record.specs.Setting.{open_rows}
use Rattle.record.specs.declared.setting.Setting.{Setting}
use Rattle.rows.specs.Ends.{Ends, is_free, is_open, id_of}
use Rattle.controller.specs.Table.{row_at, some, lowest, has}
use Rattle.record.specs.Shape.{shortest}
use Rattle.controller.specs.Doors.{Door, session, number, id_in, place, door_rows, new_rows}
use Rattle.controller.specs.Calls.{row_to}
use Rattle.bay.specs.Reasons.{Has}
use Rattle.bay.proofs.Rows.{lowest_found}
use Rattle.bay.proofs.Free.{open_there}

-- ---- a call by a door

-- the checks of a door have numbers, and none of them marks
door_unmarking : (t : List Ends) (d : Door) → T (unmarking (door_rows t d))
unfolding door_rows Refusal.authentic Refusal.marks
door_unmarking t (session r) = tt
door_unmarking t (number i) = tt

pub door_numbered : (t : List Ends) (d : Door) → T (numbered (door_rows t d))
unfolding door_rows
door_numbered t (session r) = tt
door_numbered t (number i) = tt

-- no refusal of a door marks
pub door_quiet : (t : List Ends) (d : Door) → Refusal.marks (first (door_rows t d)) ≡ false
door_quiet t d = first_unmarking (door_rows t d) (door_unmarking t d)

-- it is open, and has this Session ID
pub has_told : (id : ℕ) (e : Ends) → Tells (has id e) (Has id e)
unfolding has
has_told id e = tells_and (tells_true (is_open e)) (tells_eq (id_of e) id)

-- by a record: it is long enough, and the row is open and has its Session ID
pub session_through : (t : List Ends) (r : List ℕ) → first (door_rows t (session r)) ≡ 0 → (shortest ≤ length r) × Has (id_in r) (row_to t (session r))
unfolding door_rows place
session_through t r e =
    let p : (k : ℕ) → test_of k (door_rows t (session r)) ≡ false = λ k. row_passed k (door_rows t (session r)) tt e in
    let q = lowest_found (has (id_in r)) t (not-false _ (p Refusal.unknown)) in
    (ltb-false (length r) shortest (p Refusal.short), (has_told (id_in r) _).holds q.1)

-- the row is open
pub door_open : (t : List Ends) (d : Door) → first (door_rows t d) ≡ 0 → is_free (row_to t d) ≡ false
unfolding door_rows place
door_open t (session r) e = not-true _ (session_through t r e).1.0
door_open t (number i) e = row_passed Refusal.unknown (door_rows t (number i)) tt e

-- and so in the table
pub door_there : (t : List Ends) (d : Door) → first (door_rows t d) ≡ 0 → place t d < length t
door_there t d e = open_there t (place t d) (door_open t d e)

-- ---- Open

-- what Open asked of setting and table
pub record Entered (t : List Ends) (s : Setting) : Type 0 where
  pub granted : first (open_rows s) ≡ 0
  pub none_has : some (has s.session) t ≡ false
  pub there : lowest is_free t < length t
  pub free : is_free (row_at t (lowest is_free t)) ≡ true

pub new_through : (t : List Ends) (s : Setting) → first (new_rows t s) ≡ 0 → Entered t s
unfolding new_rows open_rows
new_through t s e =
    let p : (k : ℕ) → test_of k (new_rows t s) ≡ false = λ k. row_passed k (new_rows t s) tt e in
    let q = lowest_found is_free t (not-false _ (p Refusal.rows)) in
    record { granted = rw (p Refusal.setting); none_has = p Refusal.twice; there = q.0; free = q.1 }

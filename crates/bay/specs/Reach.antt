-- Which row a call reaches, what is asked before that, and the number of its answer.
-- Assumes nothing.
use Rattle.std.specs.Prelude.{ℕ, Bool, ◌&&◌, List, eqb, length}
use Rattle.answers.specs.Table.{Check, first}
use Rattle.rows.specs.Ends.{Ends, is_free}
use Rattle.controller.specs.Table.{lowest}
use Rattle.controller.specs.Doors.{number, place, door_rows, new_rows}
use Rattle.controller.specs.Calls.{TableCall, enter, leave, receive, build, turn, open_in, close_in, receive_in, build_in, turn_in}

-- its own row: Open's is the lowest free one
unfoldable pub target : List Ends → TableCall → ℕ
target t (enter s iv iw) = lowest is_free t
target t (leave i) = i
target t (receive d c) = place t d
target t (build i app random out) = i
target t (turn i iv) = i

-- the number that it answers
unfoldable pub code_in : List Ends → TableCall → ℕ
code_in t (enter s iv iw) = (open_in t s).0
code_in t (leave i) = close_in t i
code_in t (receive d c) = (receive_in t d c).code
code_in t (build i app random out) = (build_in t i (length app) (length random) (length out)).answer
code_in t (turn i iv) = turn_in t i iv

-- what the table asks before the row is asked
unfoldable pub checks_of : List Ends → TableCall → List Check
checks_of t (enter s iv iw) = new_rows t s
checks_of t (leave i) = door_rows t (number i)
checks_of t (receive d c) = door_rows t d
checks_of t (build i app random out) = door_rows t (number i)
checks_of t (turn i iv) = door_rows t (number i)

-- the table refuses nothing, and the call's own row is i
unfoldable pub reaches : ℕ → List Ends → TableCall → Bool
reaches i t c = eqb (first (checks_of t c)) 0 && eqb (target t c) i

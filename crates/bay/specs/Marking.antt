-- What Inner does to a table: it marks the number in its row, and changes nothing else.
-- Assumes nothing.
use Rattle.std.specs.Prelude.{ℕ, ◌≡◌, ◌≢◌, List}
use Rattle.channel.specs.Call.{Call}
use Rattle.channel.specs.Receiver.{state_after}
use Rattle.promises.specs.Marks.{Marked}
use Rattle.rows.specs.Ends.{Ends}
use Rattle.controller.specs.Table.{row_at}
use Rattle.controller.specs.Doors.{place}
use Rattle.controller.specs.Calls.{TableCall, enter, leave, receive, build, turn, table_after}

-- u is t after the call c on the receiver of row i, which was a Settle that marked its number, and just that
pub record MarksRow (t u : List Ends) (i : ℕ) (c : Call) : Type 0 where
  pub marked : Marked (row_at t i).receiver c
  pub receiver : (row_at u i).receiver ≡ state_after (row_at t i).receiver c
  pub sender : (row_at u i).sender ≡ (row_at t i).sender
  pub others : (j : ℕ) → j ≢ i → row_at u j ≡ row_at t j

-- the call is a receiver's, and marked its number in its row
abbrev pub MarkedIn : List Ends → TableCall → Type 0
MarkedIn t (enter s iv iw) = ⊥
MarkedIn t (leave i) = ⊥
MarkedIn t (receive d c) = MarksRow t (table_after t (receive d c)) (place t d) c
MarkedIn t (build i app random out) = ⊥
MarkedIn t (turn i iv) = ⊥

-- The calls of the table: what each answers, and the table after it. A call changes the row that it reaches, and no other.
-- Assumes nothing.
use Rattle.std.specs.Prelude.{ℕ, List, length, set}
use Rattle.answers.specs.Table.{first, given}
use Rattle.channel.specs.Call.{Call, Answer, only}
use Rattle.channel.specs.Receiver.{new_receiver, answer_to, state_after}
use Rattle.channel.specs.Sender.{new_sender, no_build, build_of, build_out, change_sender}
use Rattle.channel.specs.declared.ffi.Built.{Built}
use Rattle.channel.specs.declared.sender.Sender.{Sender}
use Rattle.record.specs.declared.setting.Setting.{Setting}
use Rattle.rows.specs.Ends.{Ends, free_ends, is_free, with_receiver, with_sender}
use Rattle.controller.specs.Table.{row_at, lowest}
use Rattle.controller.specs.Doors.{Door, number, place, door_rows, new_rows}

-- iv is the receiver's, iw the sender's
pub data TableCall : Type 0 where
  enter : (s : Setting) (iv iw : List ℕ) → TableCall
  leave : (i : ℕ) → TableCall
  receive : (d : Door) (c : Call) → TableCall
  build : (i : ℕ) (app random out : List ℕ) → TableCall
  turn : (i : ℕ) (iv : List ℕ) → TableCall

-- the row that a door leads to
abbrev pub row_to : List Ends → Door → Ends
row_to t d = row_at t (place t d)

-- ---- the answers

-- Open's answer, and the row that it takes: the lowest free one
unfoldable pub open_in : List Ends → Setting → ℕ × ℕ
open_in t s = given (first (new_rows t s)) (0, lowest is_free t) (λ why. (why, 0))

unfoldable pub close_in : List Ends → ℕ → ℕ
close_in t i = first (door_rows t (number i))

-- where the row is reached, it answers as a channel does
unfoldable pub receive_in : List Ends → Door → Call → Answer
receive_in t d c = given (first (door_rows t d)) (answer_to (row_to t d).receiver c) only

unfoldable pub build_in : List Ends → ℕ → ℕ → ℕ → ℕ → Built
build_in t i p q room =
    let s : Sender = (row_at t i).sender in
    given (first (door_rows t (number i))) (build_of s p q room) (no_build s)

-- the buffer after Build
unfoldable pub build_out_in : List Ends → ℕ → List ℕ → List ℕ → List ℕ → List ℕ
build_out_in t i app random out =
    given (first (door_rows t (number i))) (build_out (row_at t i).sender app random out) (λ why. out)

unfoldable pub turn_in : List Ends → ℕ → List ℕ → ℕ
turn_in t i iv = given (first (door_rows t (number i))) (change_sender (row_at t i).sender iv).answer (λ why. why)

-- ---- the table after

unfoldable pub table_after : List Ends → TableCall → List Ends
table_after t (enter s iv iw) =
    given (first (new_rows t s)) (set t (lowest is_free t) (record { receiver = new_receiver s iv; sender = new_sender s iw })) (λ why. t)
table_after t (leave i) = given (first (door_rows t (number i))) (set t i free_ends) (λ why. t)
table_after t (receive d c) =
    given (first (door_rows t d)) (set t (place t d) (with_receiver (row_to t d) (state_after (row_to t d).receiver c))) (λ why. t)
table_after t (build i app random out) =
    let e : Ends = row_at t i in
    given (first (door_rows t (number i))) (set t i (with_sender e (build_of e.sender (length app) (length random) (length out)).next)) (λ why. t)
table_after t (turn i iv) =
    let e : Ends = row_at t i in
    given (first (door_rows t (number i))) (set t i (with_sender e (change_sender e.sender iv).next)) (λ why. t)

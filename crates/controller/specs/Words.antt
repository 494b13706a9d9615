-- The words that the table lies in: what a call that changes a row writes there. A refusal writes nothing.
-- Assumes nothing.
use Rattle.std.specs.Prelude.{ℕ, cond, List, map, eqb, get_or, set, replicate, Result, Option, position, Bool}
use Rattle.answers.specs.Refusal.{authentic}
use Rattle.answers.specs.Table.{first, given}
use Rattle.answers.specs.Answer.{code_of, or_none}
use Rattle.answers.specs.declared.refusal.Refusal.{Refusal}
use Rattle.channel.specs.Call.{Call}
use Rattle.channel.specs.Receiver.{new_receiver, state_after}
use Rattle.channel.specs.Sender.{new_sender, change_sender}
use Rattle.record.specs.declared.setting.Setting.{Setting}
use Rattle.rows.specs.Ends.{row_words, Ends, is_free, ends_of, put_receiver, put_sender}
use Rattle.rows.specs.declared.row.Row.{Row}
use Rattle.controller.specs.declared.door.Reach.{Reach}
use Rattle.controller.specs.Table.{row_at, lowest}
use Rattle.controller.specs.Doors.{Door, number, place, door_rows, new_rows}
use Rattle.controller.specs.Calls.{row_to, receive_in, build_in, turn_in}

-- the words of a free row
abbrev pub no_words : List ℕ
no_words = replicate row_words 0

abbrev pub rows_of : List (List ℕ) → List Ends
rows_of w = map ends_of w

-- the place of the lowest row that passes the test, where there is one
abbrev pub first_row : (Ends → Bool) → List (List ℕ) → Option ℕ
first_row p w = position (λ (x : List ℕ). p (ends_of x)) w

abbrev pub words_at : List (List ℕ) → ℕ → List ℕ
words_at w i = get_or w i no_words

-- the row that a door leads to, as numbers: 0, its place and its words, or why it leads to none and zeros
pub record Reached : Type 0 where
  pub answer : ℕ
  pub at : ℕ
  pub row : Row

abbrev nothing : Reach
nothing = record { at = 0; row = record { words = no_words } }

-- what a result is, as numbers
abbrev pub as_reached : Result Reach Refusal → Reached
as_reached r =
    let f : Reach = or_none nothing r in
    record { answer = code_of r; at = f.at; row = f.row }

abbrev pub no_row : ℕ → Reached
no_row why = record { answer = why; at = 0; row = record { words = no_words } }

unfoldable pub reached_in : List (List ℕ) → Door → Reached
reached_in w d =
    let at : ℕ = place (rows_of w) d in
    given (first (door_rows (rows_of w) d)) (record { answer = 0; at = at; row = record { words = words_at w at } }) no_row

-- ---- the words after a call

unfoldable pub enter_words : List (List ℕ) → Setting → List ℕ → List ℕ → List (List ℕ)
enter_words w s iv iw =
    given (first (new_rows (rows_of w) s))
    (set w (lowest is_free (rows_of w)) (put_sender (put_receiver no_words (new_receiver s iv)) (new_sender s iw)))
    (λ why. w)

unfoldable pub leave_words : List (List ℕ) → ℕ → List (List ℕ)
leave_words w i = given (first (door_rows (rows_of w) (number i))) (set w i no_words) (λ why. w)

-- Settle, Change key and Drop: 0, and a refusal that marks
unfoldable pub receive_words : List (List ℕ) → Door → Call → List (List ℕ)
receive_words w d c =
    let t : List Ends = rows_of w in
    cond (authentic (receive_in t d c).code)
    (set w (place t d) (put_receiver (words_at w (place t d)) (state_after (row_to t d).receiver c)))
    w

unfoldable pub build_words : List (List ℕ) → ℕ → ℕ → ℕ → ℕ → List (List ℕ)
build_words w i p q room =
    let t : List Ends = rows_of w in
    cond (eqb (build_in t i p q room).answer 0) (set w i (put_sender (words_at w i) (build_in t i p q room).next)) w

unfoldable pub turn_words : List (List ℕ) → ℕ → List ℕ → List (List ℕ)
turn_words w i iv =
    let t : List Ends = rows_of w in
    cond (eqb (turn_in t i iv) 0) (set w i (put_sender (words_at w i) (change_sender (row_at t i).sender iv).next)) w

-- What a call makes of its row, and so of the table.
-- Assumes nothing.
use Prim.Native.Nat.{ℕ, ◌<◌}
use mathlib.Core.Path.{◌≡◌, refl, ◌∙◌}
use mathlib.Core.Logic.{◌≢◌}
use mathlib.Core.List.{List}
use lib.ListN.{length, set}
use lib.Dec.{eqb}
use borrow.Author.Tests.{eqb-true}
use Rattle.answers.specs.Table.{first, given}
use Rattle.answers.proofs.Given.{given_ok, given_no}
use Rattle.answers.proofs.Tests.{by_cases}
use Rattle.channel.specs.Receiver.{new_receiver, state_after}
use Rattle.channel.specs.Sender.{new_sender, build_of, change_sender}
use Rattle.rows.specs.Ends.{Ends, free_ends, with_receiver, with_sender}
use Rattle.controller.specs.Table.{row_at}
use Rattle.controller.specs.Doors.{number, place}
use Rattle.controller.specs.Calls.{TableCall, enter, leave, receive, build, turn, row_to, table_after}
use Rattle.bay.specs.Reach.{target, checks_of}
use Rattle.bay.proofs.Through.{door_there, new_through}

-- what the call makes of its row
unfoldable pub made : List Ends → TableCall → Ends
made t (enter s iv iw) = record { receiver = new_receiver s iv; sender = new_sender s iw }
made t (leave i) = free_ends
made t (receive d c) = with_receiver (row_to t d) (state_after (row_to t d).receiver c)
made t (build i app random out) = with_sender (row_at t i) (build_of (row_at t i).sender (length app) (length random) (length out)).next
made t (turn i iv) = with_sender (row_at t i) (change_sender (row_at t i).sender iv).next

-- where the table refuses nothing, the call's row is set to that; else nothing changes
pub after_is : (t : List Ends) (c : TableCall) → table_after t c ≡ given (first (checks_of t c)) (set t (target t c) (made t c)) (λ why. t)
unfolding table_after checks_of target made
after_is t (enter s iv iw) = refl
after_is t (leave i) = refl
after_is t (receive d c) = refl
after_is t (build i app random out) = refl
after_is t (turn i iv) = refl

-- then its row is in the table
pub target_there : (t : List Ends) (c : TableCall) → first (checks_of t c) ≡ 0 → target t c < length t
unfolding checks_of target place
target_there t (enter s iv iw) e = (new_through t s e).there
target_there t (leave i) e = door_there t (number i) e
target_there t (receive d c) e = door_there t d e
target_there t (build i app random out) e = door_there t (number i) e
target_there t (turn i iv) e = door_there t (number i) e

-- ---- so a call does one of two things

module _ (t : List Ends) (c : TableCall) where
  pub after_ok : first (checks_of t c) ≡ 0 → table_after t c ≡ set t (target t c) (made t c)
  after_ok e = after_is t c ∙ given_ok _ (λ why. t) (first (checks_of t c)) e

  pub after_no : first (checks_of t c) ≢ 0 → table_after t c ≡ t
  after_no n = after_is t c ∙ given_no _ (λ (why : ℕ). t) (first (checks_of t c)) n

  -- what holds of the table with the row set, and of the table as it was, holds of the table after the call
  pub after_either : (P : List Ends → Type 0) → (first (checks_of t c) ≡ 0 → P (set t (target t c) (made t c))) → P t → P (table_after t c)
  after_either P f g = rw after_is (by_cases P (eqb (first (checks_of t c)) 0) _ _ (λ e. f (eqb-true _ _ e)) (λ e. g))

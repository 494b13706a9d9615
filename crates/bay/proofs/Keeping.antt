-- Every call changes its own row at most, and a refusal keeps the whole table; but Inner, which marks its number. In any table, good or bad.
-- Assumes nothing.
use Prim.Native.Nat.{ℕ}
use mathlib.Core.Path.{◌≡◌, refl, sym, ap, ◌∙◌}
use mathlib.Core.Logic.{◌≢◌}
use mathlib.Core.Bool.{Bool, true, false}
use mathlib.Core.List.{List, ◌++◌}
use lib.Dec.{T, eqb}
use lib.ListN.{length, set, length-set}
use lib.Seq.{set-get_or}
use borrow.Author.Tests.{eqb-true, eqb-false}
use Rattle.answers.specs.Refusal as Refusal
use Rattle.answers.specs.Table.{Check, first}
use Rattle.answers.proofs.Table.{unmarking, first_unmarking}
use Rattle.answers.proofs.Tests.{true_not_false}
use Rattle.record.specs.Write.{form_rows, room_rows}
use Rattle.record.specs.Setting.{open_rows}
use Rattle.channel.specs.Call.{Call, Answer}
use Rattle.channel.specs.Sender.{build_rows, sender_rows, change_rows, build_of}
use Rattle.channel.specs.declared.ffi.Built.{Built}
use Rattle.channel.specs.declared.ffi.SenderStep.{SenderStep}
use Rattle.promises.proofs.Demands as Base
use Rattle.promises.proofs.Marking.{inner_alone}
use Rattle.rows.specs.Ends.{Ends, free_ends, with_receiver, with_sender}
use Rattle.controller.specs.Table.{row_at}
use Rattle.controller.specs.Doors.{Door, number, place, door_rows, new_rows}
use Rattle.controller.specs.Calls.{TableCall, enter, leave, receive, build, turn, row_to, close_in, receive_in, build_in, build_out_in, turn_in, table_after}
use Rattle.bay.specs.Reach.{target, code_in, checks_of}
use Rattle.bay.specs.Marking.{MarkedIn}
use Rattle.bay.proofs.Rows.{row_kept, row_set}
use Rattle.bay.proofs.Through.{door_quiet}
use Rattle.bay.proofs.Answering.{build_code, build_own, open_code, out_no, out_own, receive_no, receive_own, turn_code, turn_own}
use Rattle.bay.proofs.After.{after_either, after_no, after_ok, made, target_there}

-- ---- its own row

module _ (t : List Ends) (c : TableCall) where
  -- every call changes its own row at most
  pub own_row : (j : ℕ) → j ≢ target t c → row_at (table_after t c) j ≡ row_at t j
  own_row j n = after_either t c (λ (u : List Ends). row_at u j ≡ row_at t j) (λ e. row_kept t (target t c) (made t c) j n) refl

  -- and the table keeps its length
  pub same_length : length (table_after t c) ≡ length t
  same_length = after_either t c (λ (u : List Ends). length u ≡ length t) (λ e. length-set t (target t c) (made t c)) refl

  -- a call that makes of its row what it was keeps the table
  keeps : (first (checks_of t c) ≡ 0 → made t c ≡ row_at t (target t c)) → table_after t c ≡ t
  keeps f = after_either t c (λ (u : List Ends). u ≡ t) (λ e. ap (set t (target t c)) (f e) ∙ set-get_or t (target t c) free_ends) refl

-- ---- a refusal

module _ (t : List Ends) where
  receive_keeps : (d : Door) (c : Call) → (receive_in t d c).code ≢ 0 → (receive_in t d c).code ≢ Refusal.inner → table_after t (receive d c) ≡ t
  unfolding checks_of made target
  receive_keeps d c n m =
      keeps t (receive d c) (λ e.
      let own = ap (λ (a : Answer). a.code) (receive_own t d c e) in
      ap (with_receiver (row_to t d)) (Base.refusal_keeps (row_to t d).receiver c (λ z. n (own ∙ z)) (λ z. m (own ∙ z))))

  module _ (i : ℕ) (app random out : List ℕ) (n : (build_in t i (length app) (length random) (length out)).answer ≢ 0) where
    -- the row's own Build is then refused, where it is asked
    own_refused : first (door_rows t (number i)) ≡ 0 → (build_of (row_at t i).sender (length app) (length random) (length out)).answer ≢ 0
    own_refused e z = n (ap (λ (b : Built). b.answer) (build_own t i e _ _ _) ∙ z)

    pub build_keeps : table_after t (build i app random out) ≡ t
    unfolding checks_of made target
    build_keeps =
        keeps t (build i app random out) (λ e.
        ap (λ (b : Built). with_sender (row_at t i) b.next) (Base.refused_build (row_at t i).sender app random out (own_refused e)).0)

    -- it leaves its buffer
    pub buffer_kept : build_out_in t i app random out ≡ out
    buffer_kept = go (eqb (first (door_rows t (number i))) 0) refl
      where
        go : (b : Bool) → eqb (first (door_rows t (number i))) 0 ≡ b → build_out_in t i app random out ≡ out
        go true e = let z = eqb-true _ _ e in out_own t i z app random out ∙ (Base.refused_build (row_at t i).sender app random out (own_refused z)).1
        go false e = out_no t i (eqb-false _ _ e) app random out

  turn_keeps : (i : ℕ) (iv : List ℕ) → turn_in t i iv ≢ 0 → table_after t (turn i iv) ≡ t
  unfolding checks_of made target
  turn_keeps i iv n =
      keeps t (turn i iv) (λ e.
      ap (λ (x : SenderStep). with_sender (row_at t i) x.next) (Base.refused_turn (row_at t i).sender iv (λ z. n (turn_own t i e iv ∙ z))))

-- a refusal but Inner keeps the table
pub refusal_keeps : (t : List Ends) (c : TableCall) → code_in t c ≢ 0 → code_in t c ≢ Refusal.inner → table_after t c ≡ t
unfolding code_in close_in checks_of
refusal_keeps t (enter s iv iw) n m = after_no t (enter s iv iw) (λ z. n (open_code t s ∙ z))
refusal_keeps t (leave i) n m = after_no t (leave i) n
refusal_keeps t (receive d c) n m = receive_keeps t d c n m
refusal_keeps t (build i app random out) n m = build_keeps t i app random out n
refusal_keeps t (turn i iv) n m = turn_keeps t i iv n

-- a row that was closed is free
pub closed_free : (t : List Ends) (i : ℕ) → close_in t i ≡ 0 → row_at (table_after t (leave i)) i ≡ free_ends
unfolding close_in checks_of target made
closed_free t i e = rw (after_ok t (leave i) e) (row_set t i free_ends (target_there t (leave i) e))

-- ---- Inner

-- no answer from a table of checks that do not mark is Inner
not_inner : (xs : List Check) → T (unmarking xs) → (k : ℕ) → k ≡ first xs → k ≢ Refusal.inner
not_inner xs u k e z = true_not_false ((inner_alone (first xs)).1 (sym e ∙ z)) (first_unmarking xs u)

-- a receiver's call that answers Inner reached its row
inner_reached : (t : List Ends) (d : Door) (c : Call) → (receive_in t d c).code ≡ Refusal.inner → first (door_rows t d) ≡ 0
inner_reached t d c z = go (eqb (first (door_rows t d)) 0) refl
  where
    go : (b : Bool) → eqb (first (door_rows t d)) 0 ≡ b → first (door_rows t d) ≡ 0
    go true e = eqb-true _ _ e
    go false e =
        absurd (true_not_false ((inner_alone _).1 (sym (ap (λ (a : Answer). a.code) (receive_no t d c (eqb-false _ _ e))) ∙ z)) (door_quiet t d))

inner_row : (t : List Ends) (d : Door) (c : Call) → (receive_in t d c).code ≡ Refusal.inner → MarkedIn t (receive d c)
unfolding checks_of made target
inner_row t d c z =
    let e = inner_reached t d c z in
    let u = after_ok t (receive d c) e in
    let r = row_set t (place t d) (made t (receive d c)) (target_there t (receive d c) e) in
    record {
      marked = (Base.inner_marks (row_to t d).receiver c (sym (ap (λ (a : Answer). a.code) (receive_own t d c e)) ∙ z)).1;
      receiver = rw (u, r);
      sender = rw (u, r);
      others = λ j n. own_row t (receive d c) j n;
    }

-- a call that answers Inner is a receiver's, and marks its number in its row, and changes nothing else
pub inner_marks_row : (t : List Ends) (c : TableCall) → code_in t c ≡ Refusal.inner → MarkedIn t c
unfolding code_in close_in door_rows new_rows open_rows build_rows sender_rows form_rows room_rows change_rows Refusal.authentic Refusal.marks
inner_marks_row t (enter s iv iw) z = not_inner (new_rows t s) tt _ (open_code t s) z
inner_marks_row t (leave i) z = not_inner (door_rows t (number i)) tt _ refl z
inner_marks_row t (receive d c) z = inner_row t d c z
inner_marks_row t (build i app random out) z =
    not_inner (door_rows t (number i) ++ build_rows (row_at t i).sender (length app) (length random) (length out)) tt _
    (build_code t i (length app) (length random) (length out)) z
inner_marks_row t (turn i iv) z = not_inner (door_rows t (number i) ++ change_rows (row_at t i).sender) tt _ (turn_code t i iv) z

-- The receiver of a row that was reached is asked, and put back where it changed.
-- Assumes nothing.
use Prim.Native.Nat.{ℕ}
use mathlib.Core.Bool.{true, false}
use mathlib.Core.List.{List}
use mathlib.Core.Path.{◌≡◌, refl, sym, ap, ◌∙◌}
use lib.Dec.{T, eqb}
use lib.ListN.{set}
use lib.Seq.{set-get_or}
use borrow.Author.Tests.{eqb-true, eqb-false, ne_eqb}
use Rattle.answers.specs.Refusal.{authentic, marks}
use Rattle.answers.specs.Table.{first}
use Rattle.answers.proofs.Given.{given_ok, given_no}
use Rattle.answers.proofs.Table.{unmarking, first_unmarking}
use Rattle.answers.proofs.Tests.{by_cases, or_neither}
use Rattle.channel.specs.Call.{Call, change_key, drop_old, Answer, only}
use Rattle.channel.specs.Rules.{rows, state_rows}
use Rattle.channel.specs.Receiver as Step
use Rattle.channel.specs.Receiver.{look, answer_to, state_after}
use Rattle.channel.specs.Told.{receiver_step}
use Rattle.channel.specs.declared.ffi.ReceiverStep.{ReceiverStep}
use Rattle.channel.specs.declared.receiver.Receiver.{Receiver}
use Rattle.channel.proofs.Outcome.{code_of, answer_no, after_no}
use Rattle.rows.specs.Ends.{Ends, free_ends, receiver_of, ends_of, with_receiver, put_receiver}
use Rattle.controller.specs.Words.{Reached}
use Rattle.controller.specs.Doors.{Door, place, door_rows}
use Rattle.controller.specs.Calls.{receive, row_to, receive_in, table_after}
use Rattle.controller.specs.Words.{as_reached, reached_in, rows_of, words_at, receive_words}
use Rattle.controller.specs.declared.door.Reach.{Reach}
use Rattle.answers.specs.declared.refusal.Refusal.{Refusal}
use Rattle.answers.specs.Answer.{number_of}
use Rattle.answers.proofs.Answer.{number_some}
use Rattle.std.specs.Prelude.{Result, Ok, Err}
use Rattle.controller.proofs.Reaching.{rows_set, door_unmarking, door_why, door_found, ends_found}

-- what answers neither 0 nor a refusal that marks keeps the receiver
receiver_kept : (r : Receiver) (c : Call) → authentic (answer_to r c).code ≡ false → state_after r c ≡ r
unfolding authentic
receiver_kept r c h =
    let k : ℕ = (answer_to r c).code in
    let n = or_neither (eqb k 0) (marks k) h in
    after_no r c k (sym (code_of r c)) (eqb-false k 0 n.0) n.1

-- a call that is granted changes the row
pub zero_moves : (k : ℕ) → k ≡ 0 → authentic k ≡ true
unfolding authentic
zero_moves k e = rw e refl

-- of a call none of whose refusals marks
refuses_plain : (r : Receiver) (c : Call) (k : ℕ) → k ≡ (answer_to r c).code → (k ≡ 0 → ⊥) → T (unmarking (rows (look r) c)) → authentic k ≡ false
unfolding authentic
refuses_plain r c k e n u = rw (ne_eqb k 0 n) (ap marks (e ∙ code_of r c) ∙ first_unmarking (rows (look r) c) u)

module _ (w : List (List ℕ)) (d : Door) (c : Call) where
  abbrev t : List Ends
  t = rows_of w

  -- the row's answer, where the way is free; else the refusal alone
  receive_reached : first (door_rows t d) ≡ 0 → receive_in t d c ≡ answer_to (row_to t d).receiver c
  unfolding receive_in
  receive_reached h = given_ok (answer_to (row_to t d).receiver c) only (first (door_rows t d)) h

  receive_refused : (first (door_rows t d) ≡ 0 → ⊥) → receive_in t d c ≡ only (first (door_rows t d))
  unfolding receive_in
  receive_refused h = given_no (answer_to (row_to t d).receiver c) only (first (door_rows t d)) h

  table_kept : authentic (receive_in t d c).code ≡ false → table_after t (receive d c) ≡ t
  unfolding table_after
  table_kept h =
      by_cases (λ (x : List Ends). x ≡ t) (eqb (first (door_rows t d)) 0) _ _
      (λ z. ap (λ (r : Receiver). set t (place t d) (with_receiver (row_to t d) r))
      (receiver_kept (row_to t d).receiver c (ap (λ (a : Answer). authentic a.code) (sym (receive_reached (eqb-true _ 0 z))) ∙ h))
      ∙ set-get_or t (place t d) free_ends)
      (λ z. refl)

  -- nothing is written, and no row changes
  pub untouched : authentic (receive_in t d c).code ≡ false → (w ≡ receive_words w d c) × (rows_of w ≡ table_after (rows_of w) (receive d c))
  unfolding receive_words
  untouched h = (rw h refl, sym (table_kept h))

  module _ (to : Reached) (e : to ≡ reached_in w d) where
    pub refused_way : (to.answer ≡ 0 → ⊥) → (only to.answer ≡ receive_in t d c) × (authentic (receive_in t d c).code ≡ false)
    unfolding authentic
    refused_way n =
        let why : first (door_rows t d) ≡ to.answer = door_why w d to e in
        let answer : only to.answer ≡ receive_in t d c = ap only (sym why) ∙ sym (receive_refused (λ z. n (sym why ∙ z))) in
        let plain : marks to.answer ≡ false = ap marks (sym why) ∙ first_unmarking (door_rows t d) (door_unmarking t d) in
        (answer, rw (← answer, ne_eqb to.answer 0 n, plain) refl)

    pub row_answers : to.answer ≡ 0 → answer_to (receiver_of to.row.words) c ≡ receive_in t d c
    row_answers h =
        ap (λ (x : Ends). answer_to x.receiver c) (ends_found w d to e h) ∙ sym (receive_reached (door_why w d to e ∙ h))

    -- of the number k that the row answered
    module _ (h : to.answer ≡ 0) (k : ℕ) (told : k ≡ (answer_to (receiver_of to.row.words) c).code) where
      pub row_refuses : authentic k ≡ false → (only k ≡ receive_in t d c) × (authentic (receive_in t d c).code ≡ false)
      unfolding authentic
      row_refuses plain =
          let r : Receiver = receiver_of to.row.words in
          let not_zero : k ≡ 0 → ⊥ = eqb-false k 0 (or_neither (eqb k 0) (marks k) plain).0 in
          let answer : only k ≡ receive_in t d c = sym (answer_no r c k (sym (code_of r c) ∙ sym told) not_zero) ∙ row_answers h in
          (answer, ap (λ (x : Answer). authentic x.code) (sym answer) ∙ plain)

      row_moves : authentic k ≡ true → authentic (receive_in t d c).code ≡ true
      row_moves moves = ap (λ (x : Answer). authentic x.code) (sym (row_answers h)) ∙ ap authentic (sym told) ∙ moves

      -- the row is written with its receiver after the call, and no other row changes
      pub changed : authentic k ≡ true → (next : Receiver) → next ≡ state_after (receiver_of to.row.words) c
          → (x : List ℕ) → x ≡ put_receiver to.row.words next → ends_of x ≡ with_receiver (ends_of to.row.words) next
          → (set w to.at x ≡ receive_words w d c) × (rows_of (set w to.at x) ≡ table_after (rows_of w) (receive d c))
      unfolding receive_words table_after
      changed moves next after x put back =
          let ends : ends_of to.row.words ≡ row_to t d = ends_found w d to e h in
          let at : to.at ≡ place t d = ap (λ (y : Reached). y.at) (door_found w d to e h) in
          let words : to.row.words ≡ words_at w (place t d) = ap (λ (y : Reached). y.row.words) (door_found w d to e h) in
          let state : next ≡ state_after (row_to t d).receiver c = after ∙ ap (λ (y : Ends). state_after y.receiver c) ends in
          let new : ends_of x ≡ with_receiver (row_to t d) (state_after (row_to t d).receiver c) = back ∙ (λ i. with_receiver (ends i) (state i)) in (
            rw (row_moves moves, put, state, words, at) refl,
            rows_set w to.at x ∙ (λ i. set t (at i) (new i))
                ∙ sym (given_ok (set t (place t d) (with_receiver (row_to t d) (state_after (row_to t d).receiver c))) (λ why. t) (first (door_rows t d)) (door_why w d to e ∙ h)),
          )

  -- ---- what a call of a row's receiver answers, and what it leaves of the words and the rows

  abbrev pub Receives : Answer → List (List ℕ) → Type 0
  Receives a w' = (a ≡ receive_in t d c) × (w' ≡ receive_words w d c) × (rows_of w' ≡ table_after t (receive d c))

  -- the way is shut
  pub way_shut : (why : Refusal) → as_reached (Err why) ≡ reached_in w d → Receives (only (number_of why)) w
  way_shut why e =
      let way = refused_way (as_reached (Err why)) e (number_some why) in
      let same = untouched way.1 in
      (way.0, same.0, same.1)

  -- of a call that hands out a code alone
  abbrev pub Steps : ℕ → List (List ℕ) → Type 0
  Steps k w' = (k ≡ (receive_in t d c).code) × (w' ≡ receive_words w d c) × (rows_of w' ≡ table_after t (receive d c))

  pub step_shut : (why : Refusal) → as_reached (Err why) ≡ reached_in w d → Steps (number_of why) w
  step_shut why e = let s = way_shut why e in (ap (λ (x : Answer). x.code) s.0, s.1, s.2)

  -- the row is asked
  module _ (to : Reach) (e : as_reached (Ok to) ≡ reached_in w d) where
    pub row_asked : answer_to (receiver_of to.row.words) c ≡ receive_in t d c
    row_asked = row_answers (as_reached (Ok to)) e refl

    -- and refuses, and marks nothing
    pub row_keeps : (k : ℕ) → k ≡ (answer_to (receiver_of to.row.words) c).code → authentic k ≡ false → Receives (only k) w
    row_keeps k told plain =
        let row = row_refuses (as_reached (Ok to)) e refl k told plain in
        let same = untouched row.1 in
        (row.0, same.0, same.1)

    -- and changes
    pub row_changes : (a : Answer) → a ≡ answer_to (receiver_of to.row.words) c → authentic a.code ≡ true
        → (next : Receiver) → next ≡ state_after (receiver_of to.row.words) c
        → (x : List ℕ) → (x ≡ put_receiver to.row.words next) × (ends_of x ≡ with_receiver (ends_of to.row.words) next)
        → Receives a (set w to.at x)
    row_changes a told moves next after x put =
        let new = changed (as_reached (Ok to)) e refl a.code (ap (λ (y : Answer). y.code) told) moves next after x put.0 put.1 in
        (told ∙ row_asked, new.0, new.1)

    -- a call that hands out a code alone, and none of whose refusals marks: refused, and granted
    abbrev state : Receiver
    state = receiver_of to.row.words

    abbrev Told : Result Receiver Refusal → Type 0
    Told step = receiver_step state step ≡ Step.changed (answer_to state c) (state_after state c)

    pub step_keeps : (why : Refusal) → Told (Err why) → T (unmarking (rows (look state) c)) → Steps (number_of why) w
    step_keeps why run quiet =
        let told = ap (λ (y : ReceiverStep). y.answer) run in
        let s = row_keeps (number_of why) told (refuses_plain state c (number_of why) told (number_some why) quiet) in
        (ap (λ (x : Answer). x.code) s.0, s.1, s.2)

    pub step_changes : (next : Receiver) → Told (Ok next) → (x : List ℕ)
        → (x ≡ put_receiver to.row.words next) × (ends_of x ≡ with_receiver (ends_of to.row.words) next) → Steps 0 (set w to.at x)
    step_changes next run x put =
        let told = ap (λ (y : ReceiverStep). y.answer) run in
        let s = row_changes (answer_to state c) refl (ap authentic (sym told) ∙ zero_moves 0 refl) next (ap (λ (y : ReceiverStep). y.next) run) x put in
        (told ∙ ap (λ (x : Answer). x.code) s.0, s.1, s.2)

-- ---- no refusal of these calls marks

pub turn_quiet : (r : Receiver) (iv : List ℕ) → T (unmarking (rows (look r) (change_key iv)))
unfolding authentic marks rows state_rows
turn_quiet r iv = tt

pub drop_quiet : (r : Receiver) → T (unmarking (rows (look r) drop_old))
unfolding authentic marks rows state_rows
drop_quiet r = tt

-- What the table answers: where it refuses nothing the row's own answer, and else its refusal alone.
-- Assumes nothing.
use Prim.Native.Nat.{ℕ, ◌≤◌}
use mathlib.Core.Path.{◌≡◌, refl, sym, ap, ◌∙◌}
use mathlib.Core.Logic.{◌≢◌}
use mathlib.Core.Bool.{Bool, true, false, cond}
use mathlib.Core.List.{List, ◌++◌}
use native.Mathlib.Omega.{arith}
use lib.Dec.{T, eqb}
use lib.ListN.{length}
use borrow.Author.Tests.{eqb-true, eqb-false}
use Rattle.answers.specs.Refusal as Refusal
use Rattle.answers.specs.Table.{Check, first, given}
use Rattle.answers.proofs.Given.{given_ok, given_no, why_is}
use Rattle.answers.proofs.Table.{numbered, first_past, first_stop, first_within}
use Rattle.record.specs.Setting.{open_rows}
use Rattle.record.specs.declared.setting.Setting.{Setting}
use Rattle.channel.specs.Call.{Call, Answer, only}
use Rattle.channel.specs.Receiver.{look, answer_to}
use Rattle.channel.specs.Rules.{rows}
use Rattle.channel.specs.Sender.{no_build, build_rows, build_of, build_out, change_rows, change_sender}
use Rattle.channel.specs.declared.ffi.Built.{Built}
use Rattle.channel.specs.declared.sender.Sender.{Sender}
use Rattle.channel.proofs.Outcome.{code_of}
use Rattle.promises.proofs.Demands as Base
use Rattle.promises.proofs.Sending.{build_why, turn_why}
use Rattle.rows.specs.Ends.{Ends, is_free}
use Rattle.controller.specs.Table.{row_at, lowest}
use Rattle.controller.specs.Doors.{Door, session, number, door_rows, new_rows}
use Rattle.controller.specs.Calls.{TableCall, enter, leave, receive, build, turn, row_to, open_in, close_in, receive_in, build_in, build_out_in, turn_in}
use Rattle.bay.specs.Reach.{code_in, checks_of}
use Rattle.bay.proofs.Through.{door_numbered}

-- ---- where the table refuses nothing

module _ (t : List Ends) (d : Door) (c : Call) (e : first (door_rows t d) ≡ 0) where
  pub receive_own : receive_in t d c ≡ answer_to (row_to t d).receiver c
  unfolding receive_in
  receive_own = given_ok _ only (first (door_rows t d)) e

module _ (t : List Ends) (i : ℕ) (e : first (door_rows t (number i)) ≡ 0) where
  pub build_own : (p q room : ℕ) → build_in t i p q room ≡ build_of (row_at t i).sender p q room
  unfolding build_in
  build_own p q room = given_ok _ (no_build (row_at t i).sender) (first (door_rows t (number i))) e

  pub out_own : (app random out : List ℕ) → build_out_in t i app random out ≡ build_out (row_at t i).sender app random out
  unfolding build_out_in
  out_own app random out = given_ok _ (λ why. out) (first (door_rows t (number i))) e

  pub turn_own : (iv : List ℕ) → turn_in t i iv ≡ (change_sender (row_at t i).sender iv).answer
  unfolding turn_in
  turn_own iv = given_ok _ (λ why. why) (first (door_rows t (number i))) e

-- Open answers the lowest free row
pub open_own : (t : List Ends) (s : Setting) → first (new_rows t s) ≡ 0 → open_in t s ≡ (0, lowest is_free t)
unfolding open_in
open_own t s e = given_ok (0, lowest is_free t) (λ why. (why, 0)) (first (new_rows t s)) e

-- ---- where it refuses: its number, zeros, and a buffer as it was

module _ (t : List Ends) (d : Door) (c : Call) (n : first (door_rows t d) ≢ 0) where
  pub receive_no : receive_in t d c ≡ only (first (door_rows t d))
  unfolding receive_in
  receive_no = given_no _ only (first (door_rows t d)) n

module _ (t : List Ends) (i : ℕ) (n : first (door_rows t (number i)) ≢ 0) where
  pub build_no : (p q room : ℕ) → build_in t i p q room ≡ no_build (row_at t i).sender (first (door_rows t (number i)))
  unfolding build_in
  build_no p q room = given_no _ (no_build (row_at t i).sender) (first (door_rows t (number i))) n

  pub out_no : (app random out : List ℕ) → build_out_in t i app random out ≡ out
  unfolding build_out_in
  out_no app random out = given_no _ (λ (why : ℕ). out) (first (door_rows t (number i))) n

  pub turn_no : (iv : List ℕ) → turn_in t i iv ≡ first (door_rows t (number i))
  unfolding turn_in
  turn_no iv = given_no _ (λ (why : ℕ). why) (first (door_rows t (number i))) n

pub open_no : (t : List Ends) (s : Setting) → first (new_rows t s) ≢ 0 → open_in t s ≡ (first (new_rows t s), 0)
unfolding open_in
open_no t s n = given_no (0, lowest is_free t) (λ why. (why, 0)) (first (new_rows t s)) n

-- so a Build that is granted is the row's own
pub granted_build : (t : List Ends) (i p q room : ℕ) → (build_in t i p q room).answer ≡ 0 → build_in t i p q room ≡ build_of (row_at t i).sender p q room
granted_build t i p q room z = go (eqb (first (door_rows t (number i))) 0) refl
  where
    go : (b : Bool) → eqb (first (door_rows t (number i))) 0 ≡ b → build_in t i p q room ≡ build_of (row_at t i).sender p q room
    go true e = build_own t i (eqb-true _ _ e) p q room
    go false e = let n = eqb-false _ _ e in absurd (n (sym (ap (λ (b : Built). b.answer) (build_no t i n p q room)) ∙ z))

-- and the number of a refusal is that of the table's checks
pub refused_code : (t : List Ends) (c : TableCall) → first (checks_of t c) ≢ 0 → code_in t c ≡ first (checks_of t c)
unfolding code_in checks_of close_in
refused_code t (enter s iv iw) n = ap (λ (x : ℕ × ℕ). x.0) (open_no t s n)
refused_code t (leave i) n = refl
refused_code t (receive d c) n = ap (λ (a : Answer). a.code) (receive_no t d c n)
refused_code t (build i app random out) n = ap (λ (b : Built). b.answer) (build_no t i n _ _ _)
refused_code t (turn i iv) n = turn_no t i n iv

-- ---- the number is that of the table's checks, and then of the row's

joined : {A : Type 0} (code : A → ℕ) (own : A) (deny : ℕ → A) (xs ys : List Check) → T (numbered xs) → code own ≡ first ys → ((k : ℕ) → code (deny k) ≡ k)
    → code (given (first xs) own deny) ≡ first (xs ++ ys)
joined code own deny xs ys h eo en = go (eqb (first xs) 0) refl
  where
    go : (b : Bool) → eqb (first xs) 0 ≡ b → code (cond b own (deny (first xs))) ≡ first (xs ++ ys)
    go true e = eo ∙ sym (first_past xs ys h (eqb-true _ _ e))
    go false e = en (first xs) ∙ sym (first_stop xs ys (eqb-false _ _ e))

pub open_code : (t : List Ends) (s : Setting) → (open_in t s).0 ≡ first (new_rows t s)
unfolding open_in
open_code t s =
    sym (why_is (λ (x : ℕ × ℕ). x.0) (0, lowest is_free t) (λ why. (why, 0)) refl (λ k. refl) (open_in t s) (first (new_rows t s)) refl)

pub receive_code : (t : List Ends) (d : Door) (c : Call) → (receive_in t d c).code ≡ first (door_rows t d ++ rows (look (row_to t d).receiver) c)
unfolding receive_in
receive_code t d c =
    joined (λ (a : Answer). a.code) (answer_to (row_to t d).receiver c) only (door_rows t d) _ (door_numbered t d) (code_of (row_to t d).receiver c) (λ k. refl)

module _ (t : List Ends) (i : ℕ) where
  pub build_code : (p q room : ℕ) → (build_in t i p q room).answer ≡ first (door_rows t (number i) ++ build_rows (row_at t i).sender p q room)
  unfolding build_in
  build_code p q room =
      let s : Sender = (row_at t i).sender in
      joined (λ (b : Built). b.answer) (build_of s p q room) (no_build s) (door_rows t (number i)) _ (door_numbered t (number i))
      (sym (build_why s p q room)) (λ k. refl)

  pub turn_code : (iv : List ℕ) → turn_in t i iv ≡ first (door_rows t (number i) ++ change_rows (row_at t i).sender)
  unfolding turn_in
  turn_code iv =
      joined (λ (k : ℕ). k) (change_sender (row_at t i).sender iv).answer (λ why. why) (door_rows t (number i)) _ (door_numbered t (number i))
      (sym (turn_why (row_at t i).sender iv)) (λ k. refl)

-- ---- a refusal, the table's or the row's, answers its number and zeros

pub refused_zeros : (t : List Ends) (d : Door) (c : Call) → (receive_in t d c).code ≢ 0 → receive_in t d c ≡ only (receive_in t d c).code
refused_zeros t d c n = go (eqb (first (door_rows t d)) 0) refl
  where
    go : (b : Bool) → eqb (first (door_rows t d)) 0 ≡ b → receive_in t d c ≡ only (receive_in t d c).code
    go true e =
        let own = receive_own t d c (eqb-true _ _ e) in
        rw own (Base.refusal_answers (row_to t d).receiver c (λ z. n (ap (λ (a : Answer). a.code) own ∙ z)))
    go false e = rw (receive_no t d c (eqb-false _ _ e))

pub refused_build_zeros : (t : List Ends) (i : ℕ) (app random out : List ℕ) → (build_in t i (length app) (length random) (length out)).answer ≢ 0
    → build_in t i (length app) (length random) (length out) ≡ no_build (row_at t i).sender (build_in t i (length app) (length random) (length out)).answer
refused_build_zeros t i app random out n = go (eqb (first (door_rows t (number i))) 0) refl
  where
    go : (b : Bool) → eqb (first (door_rows t (number i))) 0 ≡ b
        → build_in t i (length app) (length random) (length out) ≡ no_build (row_at t i).sender (build_in t i (length app) (length random) (length out)).answer
    go true e =
        let own = build_own t i (eqb-true _ _ e) (length app) (length random) (length out) in
        rw own (Base.refused_build (row_at t i).sender app random out (λ z. n (ap (λ (b : Built). b.answer) own ∙ z))).0
    go false e = rw (build_no t i (eqb-false _ _ e) (length app) (length random) (length out))

pub refused_open_zeros : (t : List Ends) (s : Setting) → (open_in t s).0 ≢ 0 → open_in t s ≡ ((open_in t s).0, 0)
refused_open_zeros t s n = let e = open_no t s (λ z. n (open_code t s ∙ z)) in rw e

-- ---- every answer is 0 or a number of the list

checks_within : (t : List Ends) (c : TableCall) → first (checks_of t c) ≤ Refusal.unknown
unfolding checks_of door_rows new_rows open_rows
checks_within t (enter s iv iw) = first_within Refusal.unknown (new_rows t s) tt
checks_within t (leave i) = first_within Refusal.unknown (door_rows t (number i)) tt
checks_within t (receive (session r) c) = first_within Refusal.unknown (door_rows t (session r)) tt
checks_within t (receive (number i) c) = first_within Refusal.unknown (door_rows t (number i)) tt
checks_within t (build i app random out) = first_within Refusal.unknown (door_rows t (number i)) tt
checks_within t (turn i iv) = first_within Refusal.unknown (door_rows t (number i)) tt

own_within : (t : List Ends) (c : TableCall) → first (checks_of t c) ≡ 0 → code_in t c ≤ Refusal.unknown
unfolding code_in checks_of close_in
own_within t (enter s iv iw) e = omega (arith, open_code t s)
own_within t (leave i) e = omega arith
own_within t (receive d c) e = let h = Base.receiver_answers (row_to t d).receiver c in omega (arith, ap (λ (a : Answer). a.code) (receive_own t d c e))
own_within t (build i app random out) e =
    let h = (Base.sender_answers (row_at t i).sender).0 (length app) (length random) (length out) in
    omega (arith, ap (λ (b : Built). b.answer) (build_own t i e (length app) (length random) (length out)))
own_within t (turn i iv) e = let h = (Base.sender_answers (row_at t i).sender).1 iv in omega (arith, turn_own t i e iv)

pub codes_within : (t : List Ends) (c : TableCall) → code_in t c ≤ Refusal.unknown
codes_within t c = go (eqb (first (checks_of t c)) 0) refl
  where
    go : (b : Bool) → eqb (first (checks_of t c)) 0 ≡ b → code_in t c ≤ Refusal.unknown
    go true e = own_within t c (eqb-true _ _ e)
    go false e = rw (refused_code t c (eqb-false _ _ e)) (checks_within t c)

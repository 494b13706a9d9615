-- When a call is State: first of all where rows clash, and from an empty table on never, neither by the table nor by a row.
-- Assumes nothing.
use Prim.Native.Nat.{ℕ}
use mathlib.Core.Path.{◌≡◌, refl, sym, ap, ◌∙◌}
use mathlib.Core.Logic.{◌≢◌, ◌↔◌}
use mathlib.Core.Bool.{Bool, true, false}
use mathlib.Core.List.{List, [], ◌∷◌}
use native.Mathlib.Omega.{arith}
use lib.Dec.{eqb}
use lib.ListN.{set}
use borrow.Author.Tests.{eqb-true, eqb-false}
use Rattle.answers.specs.Refusal as Refusal
use Rattle.answers.specs.Table.{first}
use Rattle.numbers.specs.Number.{number_rows}
use Rattle.record.specs.Read.{record_rows, place_rows}
use Rattle.record.specs.Setting.{open_rows}
use Rattle.record.specs.Write.{form_rows, room_rows}
use Rattle.record.specs.declared.setting.Setting.{Setting}
use Rattle.channel.specs.Call.{Call, offer, settle, gaps, change_key, drop_old, Answer}
use Rattle.channel.specs.Receiver.{bad_receiver, look, answer_to}
use Rattle.channel.specs.Rules.{state_rows, slot_rows, offer_rows, cipher_rows, marking_rows, rows}
use Rattle.channel.specs.Sender.{new_sender, bad_sender, sender_rows, build_rows, change_rows, build_of, change_sender}
use Rattle.channel.specs.declared.receiver.Receiver.{Receiver}
use Rattle.channel.specs.declared.ffi.Built.{Built}
use Rattle.channel.specs.declared.sender.Sender.{Sender}
use Rattle.promises.proofs.Demands as Base
use Rattle.promises.proofs.Good.{good_whole, good_new}
use Rattle.promises.proofs.Sending.{sender_whole, build_why, turn_why}
use Rattle.rows.specs.Ends.{Ends}
use Rattle.controller.specs.Table.{row_at, clashes}
use Rattle.controller.specs.Doors.{Door, session, number, place, door_rows, new_rows}
use Rattle.controller.specs.Calls.{TableCall, enter, leave, receive, build, turn, row_to, close_in, table_after}
use Rattle.bay.specs.Reach.{target, code_in, checks_of}
use Rattle.bay.specs.Reasons.{Open, Clash}
use Rattle.bay.specs.TableRun.{empty_table, table_run}
use Rattle.promises.proofs.Never.{never, never_code}
use Rattle.bay.proofs.Tests.{told_true}
use Rattle.bay.proofs.Rows.{SetRow, itself, other, set_row}
use Rattle.bay.proofs.Free.{empty_free, not_open_free}
use Rattle.bay.proofs.Ends.{granted_good}
use Rattle.bay.proofs.Through.{door_open, new_through}
use Rattle.bay.proofs.Answering.{build_own, open_code, receive_own, refused_code, turn_own}
use Rattle.bay.proofs.After.{after_either, made, target_there}
use Rattle.bay.proofs.Told.{clash_told}
use Rattle.bay.proofs.Apart.{never_clashes}

-- ---- the rows of a table that was empty are good

record Sound (e : Ends) : Type 0 where
  receiver : bad_receiver e.receiver ≡ false
  sender : bad_sender e.sender ≡ false

Sounds : List Ends → Type 0
Sounds t = (j : ℕ) → Open (row_at t j) → Sound (row_at t j)

module _ (t : List Ends) (S : Sounds t) where
  at_door : (d : Door) → first (door_rows t d) ≡ 0 → Sound (row_to t d)
  unfolding Sounds
  at_door d e = S (place t d) (rw (door_open t d e))

  made_sound : (c : TableCall) → first (checks_of t c) ≡ 0 → Open (made t c) → Sound (made t c)
  unfolding checks_of made place
  made_sound (enter s iv iw) e o =
      let g = granted_good s (new_through t s e).granted in
      record { receiver = good_whole _ (good_new s iv g); sender = sender_whole (new_sender s iw) g (omega arith) }
  made_sound (leave i) e o = absurd (not_open_free o)
  made_sound (receive d c) e o = let R = at_door d e in record { receiver = Base.stays_good (row_to t d).receiver c R.receiver; sender = R.sender }
  made_sound (build i app random out) e o =
      let R = at_door (number i) e in record { receiver = R.receiver; sender = (Base.sender_stays_good (row_at t i).sender R.sender).0 _ _ _ }
  made_sound (turn i iv) e o =
      let R = at_door (number i) e in record { receiver = R.receiver; sender = (Base.sender_stays_good (row_at t i).sender R.sender).1 iv }

  set_sound : (c : TableCall) → first (checks_of t c) ≡ 0 → Sounds (set t (target t c) (made t c))
  unfolding Sounds
  set_sound c e = λ j. one j (set_row t (target t c) (made t c) j (target_there t c e))
    where
      one : (j : ℕ) → SetRow t (target t c) (made t c) j → Open (row_at (set t (target t c) (made t c)) j) → Sound (row_at (set t (target t c) (made t c)) j)
      one j (itself p a) = rw a (made_sound c e)
      one j (other p a) = rw a (S j)

  call_sound : (c : TableCall) → Sounds (table_after t c)
  call_sound c = after_either t c Sounds (set_sound c) S

run_sound : (t : List Ends) → Sounds t → (cs : List TableCall) → Sounds (table_run t cs)
unfolding table_run
run_sound t S [] = S
run_sound t S (c ∷ cs) = run_sound (table_after t c) (call_sound t S c) cs

empty_sound : (n : ℕ) → Sounds (empty_table n)
unfolding Sounds
empty_sound n j o = absurd (not_open_free (rw (empty_free n j) at o))

-- ---- a good row is not State

zero_not_state : 0 ≢ Refusal.state
zero_not_state z = omega arith

row_never : (x : Receiver) (c : Call) → bad_receiver x ≡ false → (answer_to x c).code ≢ Refusal.state
unfolding rows offer_rows slot_rows state_rows record_rows place_rows number_rows cipher_rows marking_rows look
row_never x (offer r slot) g = never_code x (offer r slot) Refusal.state (λ z. omega arith) (rw g)
row_never x (settle r slot count n passed plain) g = never_code x (settle r slot count n passed plain) Refusal.state (λ z. omega arith) (rw g)
row_never x (gaps slot) g = never_code x (gaps slot) Refusal.state (λ z. omega arith) (rw g)
row_never x (change_key iv) g = never_code x (change_key iv) Refusal.state (λ z. omega arith) (rw g)
row_never x drop_old g = never_code x drop_old Refusal.state (λ z. omega arith) (rw g)

build_never : (s : Sender) (p q room : ℕ) → bad_sender s ≡ false → (build_of s p q room).answer ≢ Refusal.state
unfolding build_rows sender_rows form_rows room_rows
build_never s p q room g = rw (← build_why s p q room) (never Refusal.state (λ z. omega arith) (build_rows s p q room) (rw g))

turn_never : (s : Sender) (iv : List ℕ) → bad_sender s ≡ false → (change_sender s iv).answer ≢ Refusal.state
unfolding change_rows sender_rows
turn_never s iv g = rw (← turn_why s iv) (never Refusal.state (λ z. omega arith) (change_rows s) (rw g))

-- ---- nor is a table with no clash

module _ (t : List Ends) (f : clashes t ≡ false) where
  pub door_never : (d : Door) → first (door_rows t d) ≢ Refusal.state
  unfolding door_rows
  door_never (session r) = never Refusal.state (λ z. omega arith) (door_rows t (session r)) (rw f)
  door_never (number i) = never Refusal.state (λ z. omega arith) (door_rows t (number i)) (rw f)

  pub new_never : (s : Setting) → first (new_rows t s) ≢ Refusal.state
  unfolding new_rows open_rows
  new_never s = never Refusal.state (λ z. omega arith) (new_rows t s) (rw f)

  pub checks_never : (c : TableCall) → first (checks_of t c) ≢ Refusal.state
  unfolding checks_of
  checks_never (enter s iv iw) = new_never s
  checks_never (leave i) = door_never (number i)
  checks_never (receive d c) = door_never d
  checks_never (build i app random out) = door_never (number i)
  checks_never (turn i iv) = door_never (number i)

-- ---- and a table with one is

door_first : (t : List Ends) → clashes t ≡ true → (d : Door) → first (door_rows t d) ≡ Refusal.state
unfolding door_rows
door_first t e (session r) = rw e
door_first t e (number i) = rw e

checks_first : (t : List Ends) → clashes t ≡ true → (c : TableCall) → first (checks_of t c) ≡ Refusal.state
unfolding checks_of new_rows
checks_first t e (enter s iv iw) = rw e
checks_first t e (leave i) = door_first t e (number i)
checks_first t e (receive d c) = door_first t e d
checks_first t e (build i app random out) = door_first t e (number i)
checks_first t e (turn i iv) = door_first t e (number i)

-- the table's own checks say State exactly where rows clash
pub own_state : (t : List Ends) (c : TableCall) → (first (checks_of t c) ≡ Refusal.state) ↔ Clash t
own_state t c = (λ h. go (clashes t) refl h, λ h. checks_first t (told_true (clash_told t) h) c)
  where
    go : (b : Bool) → clashes t ≡ b → first (checks_of t c) ≡ Refusal.state → Clash t
    go true e h = (clash_told t).holds e
    go false e h = absurd (checks_never t e c h)

-- then every call answers State
pub clash_state : (t : List Ends) → Clash t → (c : TableCall) → code_in t c ≡ Refusal.state
clash_state t h c =
    let e = (own_state t c).1 h in
    refused_code t c (λ z. omega arith) ∙ e

-- ---- good rows and no clash: no call is State

own_never : (t : List Ends) → Sounds t → (c : TableCall) → first (checks_of t c) ≡ 0 → code_in t c ≢ Refusal.state
unfolding code_in close_in checks_of place
own_never t S (enter s iv iw) e z = zero_not_state (sym (open_code t s ∙ e) ∙ z)
own_never t S (leave i) e z = zero_not_state (sym e ∙ z)
own_never t S (receive d c) e z =
    row_never (row_to t d).receiver c (at_door t S d e).receiver (sym (ap (λ (a : Answer). a.code) (receive_own t d c e)) ∙ z)
own_never t S (build i app random out) e z =
    build_never (row_at t i).sender _ _ _ (at_door t S (number i) e).sender (sym (ap (λ (b : Built). b.answer) (build_own t i e _ _ _)) ∙ z)
own_never t S (turn i iv) e z = turn_never (row_at t i).sender iv (at_door t S (number i) e).sender (sym (turn_own t i e iv) ∙ z)

never_state : (t : List Ends) → clashes t ≡ false → Sounds t → (c : TableCall) → code_in t c ≢ Refusal.state
never_state t f S c = go (eqb (first (checks_of t c)) 0) refl
  where
    go : (b : Bool) → eqb (first (checks_of t c)) 0 ≡ b → code_in t c ≢ Refusal.state
    go true e = own_never t S c (eqb-true _ _ e)
    go false e = rw (refused_code t c (eqb-false _ _ e)) (checks_never t f c)

-- from an empty table on
pub no_state : (n : ℕ) (cs : List TableCall) (c : TableCall) → code_in (table_run (empty_table n) cs) c ≢ Refusal.state
no_state n cs c = never_state _ (never_clashes n cs) (run_sound (empty_table n) (empty_sound n) cs) c

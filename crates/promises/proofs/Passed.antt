-- What the checks of Settle say where its record was authentic, and what a call may do to the state.
-- Assumes nothing.
use Prim.Native.Nat.{ℕ, ◌-◌, ◌≤◌, ◌<◌}
use mathlib.Core.Path.{◌≡◌}
use mathlib.Core.Bool.{Bool, true, false}
use mathlib.Core.List.{List, ◌++◌}
use lib.Dec.{T}
use lib.ListN.{length}
use borrow.Author.Tests.{ltb-false, leb-false, eqb-true, not-false}
use Rattle.channel.proofs.Outcome.{code_is, effect_is}
use Rattle.answers.specs.Refusal.{authentic}
use Rattle.answers.proofs.Tests.{or_neither, by_cases}
use Rattle.answers.specs.Refusal as Refusal
use Rattle.answers.proofs.Table.{numbered, both_pass, test_of, row_passed, unmarking, past_unmarking}
use Rattle.answers.specs.Table.{first, differ}
use Rattle.channel.specs.Call.{Call, offer, settle, gaps, change_key, drop_old, Effect, stay, marking, turning, dropping}
use Rattle.channel.specs.Rules.{state_rows, slot_rows, place_rows_at, offer_rows, cipher_rows, marking_rows, rows, effect_of, outcome}
use Rattle.channel.specs.View.{View, no_key, key_at, count_at, number_at}
use Rattle.numbers.specs.Contract.{width_of}
use Rattle.numbers.specs.Number.{number_rows}
use Rattle.record.proofs.Sizes.{passed_session, passed_total, passed_least}
use Rattle.record.specs.Header.{session_of, length_of}
use Rattle.record.specs.Read.{record_rows, place_rows}
use Rattle.record.specs.Setting.{rule_of}
use Rattle.record.specs.Shape.{head_len, total_of, least, plain_len}
use Rattle.record.specs.declared.setting.Setting.{Setting}

-- ---- the groups of checks, one law for each

same : (a b : ℕ) → differ a b ≡ false → a ≡ b
same a b h = eqb-true a b (not-false _ h)

-- 1, 3
pub record Slot (v : View) (slot : ℕ) : Type 0 where
  pub good : v.bad ≡ false
  pub key : no_key v slot ≡ false

-- the slot's checks passed
pub slot_passed : (v : View) (slot : ℕ) → first (slot_rows v slot) ≡ 0 → Slot v slot
unfolding slot_rows state_rows
slot_passed v slot e =
    let p : (k : ℕ) → test_of k (slot_rows v slot) ≡ false = λ k. row_passed k (slot_rows v slot) tt e in
    record { good = p Refusal.state; key = p Refusal.key }

-- 4 to 7
pub record Frame (s : Setting) (r : List ℕ) : Type 0 where
  pub long : head_len s ≤ length r
  pub session : session_of s r ≡ s.session
  pub exact : length r ≡ total_of s r
  pub big : least s ≤ length_of s r

-- the record's checks passed
pub frame_passed : (s : Setting) (r : List ℕ) → first (record_rows s r) ≡ 0 → Frame s r
unfolding record_rows total_of
frame_passed s r e =
    record {
      long = ltb-false _ _ (row_passed Refusal.short (record_rows s r) tt e);
      session = passed_session s r e;
      exact = passed_total s r e;
      big = passed_least s r e;
    }

-- 8 to 10
pub record Place (w l e : ℕ) (seen : ℕ → Bool) (n : ℕ) : Type 0 where
  pub spare : n < l
  pub young : e - n ≤ w
  pub fresh : seen n ≡ false

-- the number's checks passed
pub place_passed : (w l e : ℕ) (seen : ℕ → Bool) (n : ℕ) → first (number_rows w l e seen n) ≡ 0 → Place w l e seen n
unfolding number_rows
place_passed w l e seen n h =
    let p : (k : ℕ) → test_of k (number_rows w l e seen n) ≡ false = λ k. row_passed k (number_rows w l e seen n) tt h in
    record { spare = leb-false _ _ (p Refusal.spent); young = ltb-false _ _ (p Refusal.old); fresh = p Refusal.repeat }

-- 11 to 13
pub record Cipher (v : View) (r : List ℕ) (slot count number : ℕ) (passed : Bool) (plain : List ℕ) : Type 0 where
  pub same_count : count ≡ count_at v slot
  pub same_number : number ≡ number_at v r slot
  pub buffer : length plain ≡ plain_len v.setting r
  pub says : passed ≡ true

-- the checks of the cipher's answer passed
pub cipher_passed : (v : View) (r : List ℕ) (slot count number : ℕ) (passed : Bool) (plain : List ℕ)
    → first (cipher_rows v r slot count number passed plain) ≡ 0 → Cipher v r slot count number passed plain
unfolding cipher_rows
cipher_passed v r slot count number passed plain e =
    let p : (k : ℕ) → test_of k (cipher_rows v r slot count number passed plain) ≡ false =
    λ k. row_passed k (cipher_rows v r slot count number passed plain) tt e in
    let q = or_neither (differ count (count_at v slot)) _ (p Refusal.stale) in
    record { same_count = same _ _ q.0; same_number = same _ _ q.1; buffer = same _ _ (p Refusal.plain); says = not-false _ (p Refusal.mac) }

-- ---- Offer and Settle

-- the number's checks, by the key of a slot
abbrev pub PlaceIn : View → ℕ → ℕ → Type 0
PlaceIn v slot n = Place (width_of (rule_of v.setting)) v.setting.limit (key_at v slot).next (key_at v slot).seen n

-- 1, 3 to 10
pub record Offers (v : View) (r : List ℕ) (slot : ℕ) : Type 0 where
  pub in_slot : Slot v slot
  pub framed : first (record_rows v.setting r) ≡ 0
  pub frame : Frame v.setting r
  pub place : PlaceIn v slot (number_at v r slot)

-- no check of the slot has the number 0
pub slot_numbered : (v : View) (slot : ℕ) → T (numbered (slot_rows v slot))
unfolding slot_rows state_rows
slot_numbered v slot = tt

-- nor has one of the record
pub frame_numbered : (s : Setting) (r : List ℕ) → T (numbered (record_rows s r))
unfolding record_rows
frame_numbered s r = tt

-- Offer's checks passed
pub offer_passed : (v : View) (r : List ℕ) (slot : ℕ) → first (offer_rows v r slot) ≡ 0 → Offers v r slot
unfolding offer_rows place_rows number_rows
offer_passed v r slot e =
    let p = both_pass (slot_rows v slot) (record_rows v.setting r ++ place_rows_at v r slot) (slot_numbered v slot) e in
    let q = both_pass (record_rows v.setting r) (place_rows_at v r slot) (frame_numbered v.setting r) p.1 in
    record {
      in_slot = slot_passed v slot p.0;
      framed = q.0;
      frame = frame_passed v.setting r q.0;
      place = place_passed _ _ _ _ _ q.1;
    }

-- the record of a Settle was authentic: it passed all checks but those that mark
pub record Passed (v : View) (r : List ℕ) (slot count number : ℕ) (passed : Bool) (plain : List ℕ) : Type 0 where
  pub in_slot : Slot v slot
  pub framed : first (record_rows v.setting r) ≡ 0
  pub frame : Frame v.setting r
  pub place : PlaceIn v slot number
  pub cipher : Cipher v r slot count number passed plain

offer_unmarking : (v : View) (r : List ℕ) (slot : ℕ) → T (unmarking (offer_rows v r slot))
unfolding offer_rows slot_rows state_rows record_rows authentic Refusal.marks place_rows number_rows
offer_unmarking v r slot = tt

cipher_unmarking : (v : View) (r : List ℕ) (slot count number : ℕ) (passed : Bool) (plain : List ℕ)
    → T (unmarking (cipher_rows v r slot count number passed plain))
unfolding cipher_rows authentic Refusal.marks
cipher_unmarking v r slot count number passed plain = tt

-- where Settle's table says 0 or a refusal that marks, the record was authentic
pub table_passed : (v : View) (r : List ℕ) (slot count number : ℕ) (passed : Bool) (plain : List ℕ)
    → authentic (first (rows v (settle r slot count number passed plain))) ≡ true → Passed v r slot count number passed plain
unfolding rows
table_passed v r slot count number passed plain e =
    let p = past_unmarking (offer_rows v r slot) (cipher_rows v r slot count number passed plain ++ marking_rows v r plain) (offer_unmarking v r slot) e in
    let q = past_unmarking (cipher_rows v r slot count number passed plain) (marking_rows v r plain)
    (cipher_unmarking v r slot count number passed plain) p.1 in
    let o = offer_passed v r slot p.0 in
    let c = cipher_passed v r slot count number passed plain q.0 in
    record { in_slot = o.in_slot; framed = o.framed; frame = o.frame; place = rw c.same_number o.place; cipher = c }

-- where Settle answers that, likewise
pub settle_passed : (v : View) (r : List ℕ) (slot count number : ℕ) (passed : Bool) (plain : List ℕ)
    → authentic (outcome v (settle r slot count number passed plain)).answer.code ≡ true → Passed v r slot count number passed plain
settle_passed v r slot count number passed plain e =
    table_passed v r slot count number passed plain (rw (code_is v (settle r slot count number passed plain)) at e)

-- ---- what a call may do to the state that it was given

-- it stays, marks a number that passed its checks, turns to a new key or drops the old one
pub data Allowed (v : View) : Effect → Type 0 where
  stays : Allowed v stay
  marks : {slot n : ℕ} → no_key v slot ≡ false → PlaceIn v slot n → Allowed v (marking slot n)
  turns : {iv : List ℕ} → Allowed v (turning iv)
  drops : Allowed v dropping

effect_allowed : (v : View) (c : Call) → authentic (outcome v c).answer.code ≡ true → Allowed v (effect_of c)
unfolding effect_of
effect_allowed v (offer r slot) h = stays
effect_allowed v (settle r slot count number passed plain) h =
    let p = settle_passed v r slot count number passed plain h in marks p.in_slot.key p.place
effect_allowed v (gaps slot) h = stays
effect_allowed v (change_key iv) h = turns
effect_allowed v drop_old h = drops

-- every call does one of these
pub allowed : (v : View) (c : Call) → Allowed v (outcome v c).effect
allowed v c =
    rw (effect_is v c)
    (by_cases (Allowed v) (authentic (outcome v c).answer.code) (effect_of c) stay (λ h. effect_allowed v c h) (λ h. stays))

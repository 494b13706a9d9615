-- Request h: without partial numbers Old and Repeat never occur, and a second Settle of one offer is Stale, or Spent at the limit.
-- Assumes nothing.
use Prim.Native.Nat.{ℕ, ◌+◌, ◌-◌, ◌≤◌, ◌<◌}
use mathlib.Core.Path.{◌≡◌, refl, sym, ap, ◌∙◌}
use mathlib.Core.Logic.{◌≢◌}
use mathlib.Core.Bool.{Bool, true, false, cond}
use mathlib.Core.List.{List, ◌++◌}
use native.Mathlib.Omega.{arith}
use native.Mathlib.Decide.{dec_le}
use lib.Dec.{T, leb, ltb, eqb}
use borrow.Author.Tests.{le-leb, lt-leb, le-ltb, ne_eqb}
use Rattle.answers.specs.Refusal as Refusal
use Rattle.answers.specs.Refusal.{authentic}
use Rattle.answers.specs.Table.{Check, first, differ}
use Rattle.answers.proofs.Table.{numbered, first_past, first_stop}
use Rattle.answers.proofs.Tests.{or_more}
use Rattle.numbers.proofs.Cases.{spent_first, seen_first}
use Rattle.numbers.specs.Contract.{width_of, seen_by}
use Rattle.numbers.specs.Number.{number_rows}
use Rattle.numbers.specs.Window.{marked}
use Rattle.record.proofs.Again.{number_next}
use Rattle.record.specs.Read.{record_rows, place_rows}
use Rattle.record.specs.Setting.{has_partial, rule_of}
use Rattle.channel.specs.Call.{Call, offer, settle, gaps, change_key, drop_old}
use Rattle.channel.proofs.Look.{face_at}
use Rattle.channel.specs.Receiver.{look, face_of, key_of, answer_to, state_after}
use Rattle.channel.proofs.Outcome.{code_is}
use Rattle.channel.specs.Rules.{outcome, state_rows, slot_rows, place_rows_at, offer_rows, cipher_rows, marking_rows, rows}
use Rattle.channel.specs.View.{Face, View, no_key, key_at, count_at, number_at}
use Rattle.channel.specs.declared.receiver.Receiver.{Receiver}
use Rattle.promises.proofs.Passed.{slot_numbered, frame_numbered, Passed, settle_passed}
use Rattle.promises.proofs.Good.{good_kept}
use Rattle.promises.proofs.Marking.{marks_just}
use Rattle.promises.proofs.Bridge.{slot_none}
use Rattle.promises.specs.Marks.{MarksJust}
use Rattle.promises.proofs.Never.{never_code}

-- E itself is never marked
unseen : (x : Receiver) (slot : ℕ) → (key_at (look x) slot).seen (key_at (look x) slot).next ≡ false
unfolding look seen_by marked
unseen x slot = go (eqb slot 0)
  where
    go : (b : Bool) → (cond b (face_of x.current) (face_of x.old)).seen (cond b (face_of x.current) (face_of x.old)).next ≡ false
    go true = rw (le-ltb x.current.window.next x.current.window.next (omega arith))
    go false = rw (le-ltb x.old.window.next x.old.window.next (omega arith))

module _ (x : Receiver) (h : has_partial x.setting ≡ false) where
  -- the number is E
  next_number : (r : List ℕ) (slot : ℕ) → number_at (look x) r slot ≡ (key_at (look x) slot).next
  unfolding look
  next_number r slot = number_next x.setting _ r h

  -- so no number is older than the width
  not_old : (slot : ℕ) → ltb (width_of (rule_of x.setting)) ((key_at (look x) slot).next - (key_at (look x) slot).next) ≡ false
  not_old slot =
      let e : ℕ = (key_at (look x) slot).next in
      let z : e - e ≤ width_of (rule_of x.setting) = omega arith in
      le-ltb _ _ z

  -- Old and Repeat never occur, in any state
  pub never_old : (c : Call) → (answer_to x c).code ≢ Refusal.old
  unfolding rows offer_rows slot_rows state_rows record_rows place_rows number_rows cipher_rows marking_rows look
  never_old (offer r slot) = never_code x (offer r slot) Refusal.old (λ z. omega arith) (rw (next_number r slot, not_old slot))
  never_old (settle r slot count n passed plain) =
      never_code x (settle r slot count n passed plain) Refusal.old (λ z. omega arith) (rw (next_number r slot, not_old slot))
  never_old (gaps slot) = never_code x (gaps slot) Refusal.old (λ z. omega arith) refl
  never_old (change_key iv) = never_code x (change_key iv) Refusal.old (λ z. omega arith) refl
  never_old drop_old = never_code x drop_old Refusal.old (λ z. omega arith) refl

  pub never_repeat : (c : Call) → (answer_to x c).code ≢ Refusal.repeat
  unfolding rows offer_rows slot_rows state_rows record_rows place_rows number_rows cipher_rows marking_rows look
  never_repeat (offer r slot) = never_code x (offer r slot) Refusal.repeat (λ z. omega arith) (rw (next_number r slot, unseen x slot))
  never_repeat (settle r slot count n passed plain) =
      never_code x (settle r slot count n passed plain) Refusal.repeat (λ z. omega arith) (rw (next_number r slot, unseen x slot))
  never_repeat (gaps slot) = never_code x (gaps slot) Refusal.repeat (λ z. omega arith) refl
  never_repeat (change_key iv) = never_code x (change_key iv) Refusal.repeat (λ z. omega arith) refl
  never_repeat drop_old = never_code x drop_old Refusal.repeat (λ z. omega arith) refl

-- ---- the second Settle of one offer

offer_numbered : (v : View) (r : List ℕ) (slot : ℕ) → T (numbered (offer_rows v r slot))
unfolding offer_rows slot_rows state_rows record_rows place_rows number_rows
offer_numbered v r slot = tt

-- in a good state, for a record that passes the frame's checks: where its number is E and E is not marked, another number is refused
module _ (v : View) (r : List ℕ) (slot : ℕ) (good : v.bad ≡ false) (key : no_key v slot ≡ false) (framed : first (record_rows v.setting r) ≡ 0)
    (number : number_at v r slot ≡ (key_at v slot).next) (unmarked : (key_at v slot).seen (key_at v slot).next ≡ false) where
  abbrev e : ℕ
  e = (key_at v slot).next

  abbrev l : ℕ
  l = v.setting.limit

  placed : first (offer_rows v r slot) ≡ first (number_rows (width_of (rule_of v.setting)) l e (key_at v slot).seen e)
  unfolding offer_rows place_rows
  placed =
      first_past (slot_rows v slot) (record_rows v.setting r ++ place_rows_at v r slot) (slot_numbered v slot) (slot_none v slot good key)
      ∙ first_past (record_rows v.setting r) (place_rows_at v r slot) (frame_numbered v.setting r) framed
      ∙ ap (λ (n : ℕ). first (number_rows (width_of (rule_of v.setting)) l e (key_at v slot).seen n)) number

  module _ (count n : ℕ) (passed : Bool) (plain : List ℕ) (other : n ≢ e) where
    abbrev rest : List Check
    rest = cipher_rows v r slot count n passed plain ++ marking_rows v r plain

    stale : first rest ≡ Refusal.stale
    unfolding cipher_rows
    stale = rw (or_more (differ count (count_at v slot)) (differ n (number_at v r slot)) (rw (number, ne_eqb n e other)))

    settle_other : (outcome v (settle r slot count n passed plain)).answer.code ≡ cond (leb l e) Refusal.spent Refusal.stale
    unfolding rows
    settle_other = code_is v (settle r slot count n passed plain) ∙ go (dec_le l e)
      where
        go : Dec (l ≤ e) → first (offer_rows v r slot ++ rest) ≡ cond (leb l e) Refusal.spent Refusal.stale
        go (yes p) =
            let s : first (offer_rows v r slot) ≡ Refusal.spent = placed ∙ spent_first _ _ _ _ _ p in
            first_stop (offer_rows v r slot) rest (λ z. omega arith) ∙ rw (le-leb l e p) s
        go (no p) =
            let q : e < l = omega arith in
            let z : first (offer_rows v r slot) ≡ 0 = placed ∙ seen_first _ _ _ _ _ q (omega arith) ∙ rw unmarked in
            first_past (offer_rows v r slot) rest (offer_numbered v r slot) z ∙ rw (lt-leb l e q) stale

-- a Settle that answered 0 or 14
module _ (x : Receiver) (r : List ℕ) (slot count n : ℕ) (passed : Bool) (plain : List ℕ) (h : has_partial x.setting ≡ false)
    (t : authentic (answer_to x (settle r slot count n passed plain)).code ≡ true) where
  abbrev y : Receiver
  y = state_after x (settle r slot count n passed plain)

  was : Passed (look x) r slot count n passed plain
  unfolding answer_to
  was = settle_passed (look x) r slot count n passed plain t

  marked_just : MarksJust x y slot n
  marked_just = marks_just x r slot count n passed plain t

  good_after : (look y).bad ≡ false
  unfolding look
  good_after = good_kept x (settle r slot count n passed plain) was.in_slot.good

  key_after : no_key (look y) slot ≡ false
  unfolding no_key look
  key_after = rw marked_just.held was.in_slot.key

  framed_after : first (record_rows (look y).setting r) ≡ 0
  unfolding look
  framed_after = rw marked_just.setting was.framed

  -- E was n, and is one more
  next_after : (key_at (look y) slot).next ≡ n + 1
  next_after =
      let e : (key_of x slot).window.next ≡ n = ap (λ (k : Face). k.next) (sym (face_at x slot)) ∙ sym (was.cipher.same_number ∙ next_number x h r slot) in
      ap (λ (k : Face). k.next) (face_at y slot) ∙ marked_just.next ∙ omega arith

  -- made again on the state that it returned, whatever the cipher then says and with whatever text, it is Stale, or Spent where its number was
  -- the last
  pub settled_twice : (again : Bool) (text : List ℕ)
      → (answer_to y (settle r slot count n again text)).code ≡ cond (leb x.setting.limit (n + 1)) Refusal.spent Refusal.stale
  unfolding answer_to look
  settled_twice again text =
      settle_other (look y) r slot good_after key_after framed_after (next_number y (rw marked_just.setting h) r slot) (unseen y slot)
      count n again text (λ z. omega (arith, next_after))
      ∙ rw (next_after, marked_just.setting)

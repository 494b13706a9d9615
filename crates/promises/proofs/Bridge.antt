-- The bridge's fault: what becomes of a record whose number was marked, in every later state of the run, and of a key that was dropped.
-- Assumes nothing.
use Prim.Native.Nat.{ℕ, ◌+◌, ◌-◌, ◌≤◌, ◌<◌}
use mathlib.Core.Path.{◌≡◌, refl, ap, sym, ◌∙◌, subst}
use mathlib.Core.Logic.{◌≢◌, ◌⊎◌, inl, inr}
use mathlib.Core.Bool.{Bool, true, false}
use mathlib.Core.List.{List, [], ◌∷◌, ◌++◌}
use native.Mathlib.Omega.{arith}
use native.Mathlib.Decide.{dec_lt}
use lib.Dec.{eqb}
use lib.ListN.{length}
use borrow.Author.Tests.{not-false}
use Rattle.channel.proofs.Outcome.{code_is, effect_is}
use Rattle.answers.specs.Refusal.{authentic}
use Rattle.answers.proofs.Tests.{true_not_false, tells_eq, tells_or}
use Rattle.answers.specs.Refusal as Refusal
use Rattle.answers.proofs.Table.{first_past, first_stop, row_passed}
use Rattle.answers.specs.Reasons.{Tells}
use Rattle.answers.specs.Table.{first}
use Rattle.channel.specs.Call.{Call, offer, settle, drop_old, Effect, stay, marking, turning, dropping, Outcome}
use Rattle.channel.specs.Receiver.{new_receiver, zero_receiver, bad_receiver, look, change, answer_to, state_after, open_receiver}
use Rattle.channel.specs.Rules.{state_rows, slot_rows, place_rows_at, offer_rows, cipher_rows, marking_rows, rows, outcome, effect_of}
use Rattle.channel.specs.View.{View, no_key, key_at, count_at, number_at}
use Rattle.channel.specs.declared.receiver.Receiver.{Receiver}
use Rattle.numbers.proofs.Laws.{member_below, old_first, seen_first}
use Rattle.numbers.specs.Contract.{width_of}
use Rattle.numbers.specs.Memory.{member}
use Rattle.numbers.specs.Number.{number_rows}
use Rattle.record.proofs.Again.{number_again, number_other}
use Rattle.record.specs.Header.{number_of}
use Rattle.record.specs.Read.{record_rows, place_rows}
use Rattle.record.specs.Setting.{has_partial, bad_setting, open_rows, rule_of}
use Rattle.record.specs.declared.setting.Setting.{Setting}
use Rattle.promises.specs.Run.{after_by, reach_by, reached}
use Rattle.promises.specs.Barred.{RepeatOrOld, Holds, next_in, Barred}
use Rattle.promises.specs.Plain.{PlainKey, Plain, new_plain, old_of, plain_look, plain_change}
use Rattle.promises.proofs.Passed.{slot_numbered, frame_numbered, Passed, settle_passed}
use Rattle.promises.proofs.Good.{good_parts, held_there}
use Rattle.promises.proofs.Alike.{Alike}
use Rattle.promises.proofs.Simulation.{Related, views, step_related, related_new}
use Rattle.channel.proofs.Zeros.{zeros_refused}
use Rattle.promises.proofs.Once.{Known, keys_of, known_now, known_older, kept, Sane, unknown, known_after, sane}

-- ---- runs of both receivers

unfoldable pub plain_reached : Plain → List Call → Plain
plain_reached = reach_by plain_look outcome plain_change

pub record Both (r : Receiver) (p : Plain) : Type 0 where
  pub related : Related r p
  pub sane_plain : Sane p

step_both : (r : Receiver) (p : Plain) (c : Call) → Both r p → Both (after_by look outcome change r c) (after_by plain_look outcome plain_change p c)
unfolding after_by
step_both r p c B = record { related = (step_related r p c B.related).1; sane_plain = sane p _ B.sane_plain }

pub run_both : (r : Receiver) (p : Plain) (cs : List Call) → Both r p → Both (reached r cs) (plain_reached p cs)
unfolding reach_by plain_reached
run_both r p [] B = B
run_both r p (c ∷ cs) B = run_both (after_by look outcome change r c) (after_by plain_look outcome plain_change p c) cs (step_both r p c B)

run_kept : {c n : ℕ} (p : Plain) (cs : List Call) → Known c n (keys_of p) → Known c n (keys_of (plain_reached p cs))
unfolding reach_by plain_reached after_by
run_kept p [] h = h
run_kept p (c ∷ cs) h = run_kept (plain_change p (outcome (plain_look p) c).effect) cs (kept p (outcome (plain_look p) c).effect h)

pub same_setting_lem : (p : Plain) (e : Effect) → (plain_change p e).setting ≡ p.setting
unfolding plain_change
same_setting_lem p stay = refl
same_setting_lem p (marking slot n) = refl
same_setting_lem p (turning iv) = refl
same_setting_lem p dropping = refl

pub run_setting : (p : Plain) (cs : List Call) → (plain_reached p cs).setting ≡ p.setting
unfolding reach_by plain_reached after_by
run_setting p [] = refl
run_setting p (c ∷ cs) = run_setting (plain_change p (outcome (plain_look p) c).effect) cs ∙ same_setting_lem p (outcome (plain_look p) c).effect

-- ---- what is known of a number is asked for in its slot

old_seen : (b : Bool) (k : PlainKey) (past : List PlainKey) (c n : ℕ) → (b ≡ true → 0 < length past) → b ≡ true → length past - 1 ≡ c
    → Known c n (k ∷ past) → member n (old_of b past).numbers ≡ true
unfolding old_of
old_seen false k past c n i t e h = absurd (true_not_false t refl)
old_seen true k [] c n i t e h = let z = i refl in absurd (omega arith)
old_seen true k (k' ∷ past) c n i t e h = known_now (known_older h (omega arith)) (omega arith)

seen_in : (p : Plain) (slot c n : ℕ) (b : Bool) → eqb slot 0 ≡ b → Sane p → Known c n (keys_of p) → no_key (plain_look p) slot ≡ false
    → count_at (plain_look p) slot ≡ c → ((key_at (plain_look p) slot).seen n ≡ true) × (n < (key_at (plain_look p) slot).next)
unfolding plain_look keys_of
seen_in p slot c n true e i k h q =
    let m = known_now k (sym (rw e at q)) in
    rw e (m, member_below n p.now.numbers m)
seen_in p slot c n false e i k h q =
    let m = old_seen p.held p.now p.past c n i (held_there (plain_look p) slot h e) (rw e at q) k in
    rw e (m, member_below n (old_of p.held p.past).numbers m)

-- ---- the answer to the record in that slot

place_again : (w l e : ℕ) (seen : ℕ → Bool) (n : ℕ) → n < l → seen n ≡ true → RepeatOrOld (first (number_rows w l e seen n))
place_again w l e seen n h m = go (dec_lt w (e - n))
  where
    go : Dec (w < e - n) → RepeatOrOld (first (number_rows w l e seen n))
    go (yes p) = inr (old_first w l e seen n h p)
    go (no p) = inl (seen_first w l e seen n h (omega arith) ∙ rw m)

-- a good state and a key in the slot pass the first checks
pub slot_none : (v : View) (slot : ℕ) → v.bad ≡ false → no_key v slot ≡ false → first (slot_rows v slot) ≡ 0
unfolding slot_rows state_rows
slot_none v slot a b = rw (b, a)

not_zero : (k : ℕ) → RepeatOrOld k → k ≢ 0
not_zero k (inl e) z = omega arith
not_zero k (inr e) z = omega arith

module _ (v : View) (r : List ℕ) (slot n : ℕ) (good : v.bad ≡ false) (key : no_key v slot ≡ false)
    (framed : first (record_rows v.setting r) ≡ 0) (number : number_at v r slot ≡ n) (spare : n < v.setting.limit)
    (seen : (key_at v slot).seen n ≡ true) where
  offer_table : RepeatOrOld (first (offer_rows v r slot))
  unfolding offer_rows place_rows number_rows
  offer_table =
      let a : first (offer_rows v r slot) ≡ first (place_rows_at v r slot) =
      first_past (slot_rows v slot) (record_rows v.setting r ++ place_rows_at v r slot) (slot_numbered v slot) (slot_none v slot good key)
      ∙ first_past (record_rows v.setting r) (place_rows_at v r slot) (frame_numbered v.setting r) framed in
      rw a
      (place_again (width_of (rule_of v.setting)) v.setting.limit (key_at v slot).next (key_at v slot).seen (number_at v r slot)
      (rw number spare) (rw number seen))

  pub offer_again : RepeatOrOld (outcome v (offer r slot)).answer.code
  unfolding rows
  offer_again = rw (code_is v (offer r slot)) offer_table

  pub settle_again : (count number' : ℕ) (passed : Bool) (plain : List ℕ) → RepeatOrOld (outcome v (settle r slot count number' passed plain)).answer.code
  unfolding rows
  settle_again count number' passed plain =
      let o = offer_table in
      let rest = cipher_rows v r slot count number' passed plain ++ marking_rows v r plain in
      rw (code_is v (settle r slot count number' passed plain), first_stop (offer_rows v r slot) rest (not_zero _ o)) o

-- ---- a key that is gone: its count is passed, and the old slot, where it is held, has a higher one

abbrev Gone : Receiver → ℕ → Type 0
Gone x c = (c < x.count) × (x.held ≡ true → c + 1 < x.count)

gone_change : (x : Receiver) (c : ℕ) (e : Effect) → Gone x c → Gone (change x e) c
unfolding change
gone_change x c stay g = g
gone_change x c (marking slot n) g = g
gone_change x c (turning iv) g = let l : c < x.count = g.0 in (omega arith, λ h. omega arith)
gone_change x c dropping g = (g.0, λ h. absurd (true_not_false h refl))

gone_run : (x : Receiver) (c : ℕ) (cs : List Call) → Gone x c → Gone (reached x cs) c
unfolding reach_by after_by
gone_run x c [] g = g
gone_run x c (k ∷ cs) g = gone_run (change x (outcome (look x) k).effect) c cs (gone_change x c (outcome (look x) k).effect g)

not_held : (x : Receiver) (c slot : ℕ) (b : Bool) → eqb slot 0 ≡ b → Gone x c → Holds x slot c → ⊥
unfolding look
not_held x c slot true e g (k, q) = let l : c < x.count = g.0 in let z : x.count ≡ c = rw e at q in omega arith
not_held x c slot false e g (k, q) =
    let l : c + 1 < x.count = g.1 (held_there (look x) slot k e) in
    let z : x.count - 1 ≡ c = rw e at q in
    omega arith

drop_held : (x : Receiver) → (answer_to x drop_old).code ≡ 0 → (x.held ≡ true) × (bad_receiver x ≡ false) × (state_after x drop_old ≡ change x dropping)
unfolding answer_to state_after rows state_rows look authentic effect_of
drop_held x z =
    let e : first (rows (look x) drop_old) ≡ 0 = sym (code_is (look x) drop_old) ∙ z in
    (not-false _ (row_passed Refusal.key (rows (look x) drop_old) tt e), row_passed Refusal.state (rows (look x) drop_old) tt e, rw (effect_is (look x) drop_old, z))

-- where Drop is granted, the old slot holds a key: that is the one it drops
pub drop_holds : (x : Receiver) → (answer_to x drop_old).code ≡ 0 → Holds x 1 (x.count - 1)
unfolding no_key look
drop_holds x z = (rw (drop_held x z).0, refl)

drop_gone : (x : Receiver) → (answer_to x drop_old).code ≡ 0 → Gone (state_after x drop_old) (x.count - 1)
unfolding change
drop_gone x z =
    let d = drop_held x z in
    let l : 0 < x.count = (good_parts x d.1).counted d.0 in
    rw d.2 (omega arith, λ h. absurd (true_not_false h refl))

-- once the key in the old slot is dropped, no slot holds it again
pub dropped_for_ever : (x : Receiver) (c : ℕ) → Holds x 1 c → (answer_to x drop_old).code ≡ 0 → (later : List Call) (slot : ℕ)
    → Holds (reached (state_after x drop_old) later) slot c → ⊥
unfolding look
dropped_for_ever x c H z later slot =
    let e : x.count - 1 ≡ c = H.1 in
    not_held _ c slot (eqb slot 0) refl (gone_run _ c later (rw e at (drop_gone x z)))

-- ---- after a Settle of r under c and n whose record was authentic

-- the two views of one slot
same_key : (v u : View) (slot : ℕ) → Alike v u → no_key v slot ≡ no_key u slot
unfolding no_key
same_key v u slot A = rw A.helds

same_count : (v u : View) (slot : ℕ) → Alike v u → count_at v slot ≡ count_at u slot
same_count v u slot A = rw A.counted

same_next : (v u : View) (slot : ℕ) → Alike v u → (key_at v slot).next ≡ (key_at u slot).next
same_next v u slot A = go (eqb slot 0) refl
  where
    go : (b : Bool) → eqb slot 0 ≡ b → (key_at v slot).next ≡ (key_at u slot).next
    go true e = rw e A.current.nexts
    go false e = rw e A.old.nexts

code_false : (k : ℕ) → (authentic k ≡ true → ⊥) → authentic k ≡ false
code_false k h = go (authentic k) refl
  where
    go : (b : Bool) → authentic k ≡ b → authentic k ≡ false
    go true e = absurd (h e)
    go false e = e

-- "0 or 14": the answers to an authentic record
pub authentic_told : (k : ℕ) → Tells (authentic k) ((k ≡ 0) ⊎ (k ≡ Refusal.inner))
unfolding authentic Refusal.marks
authentic_told k = tells_or (tells_eq k 0) (tells_eq k Refusal.inner)

-- the record r passed the frame's checks, and under E it was read as the number n, which is not spent
record ReadAs (s : Setting) (e : ℕ) (r : List ℕ) (n : ℕ) : Type 0 where
  framed : first (record_rows s r) ≡ 0
  number : number_of s e r ≡ n
  spare : n < s.limit

-- in a state of a run in which the plain receiver knows n under c, and r was read as n
module _ (x : Receiver) (p : Plain) (B : Both x p) (r : List ℕ) (c n e : ℕ) (known : Known c n (keys_of p))
    (was : ReadAs p.setting e r n) where
  plain_outcome : (k : Call) → outcome (look x) k ≡ outcome (plain_look p) k
  plain_outcome k = (step_related x p k B.related).0

  alike : Alike (look x) (plain_look p)
  alike = views x p B.related

  good : (plain_look p).bad ≡ false
  unfolding plain_look
  good = rw B.related.settings at B.related.good.accepted

  in_slot : has_partial x.setting ≡ true → (slot : ℕ) → Holds x slot c → next_in x slot - n ≤ 32768
      → (no_key (plain_look p) slot ≡ false) × (number_at (plain_look p) r slot ≡ n) × ((key_at (plain_look p) slot).seen n ≡ true)
  unfolding plain_look
  in_slot h slot H l =
      let k : no_key (plain_look p) slot ≡ false = sym (same_key (look x) (plain_look p) slot alike) ∙ H.0 in
      let q : count_at (plain_look p) slot ≡ c = sym (same_count (look x) (plain_look p) slot alike) ∙ H.1 in
      let s = seen_in p slot c n (eqb slot 0) refl B.sane_plain known k q in
      let f : next_in x slot ≡ (key_at (plain_look p) slot).next = same_next (look x) (plain_look p) slot alike in
      let low : n < (key_at (plain_look p) slot).next = s.1 in
      (k, number_again p.setting (rw B.related.settings at h) e (key_at (plain_look p) slot).next n r was.number low (omega arith), s.0)

  barred : Barred x r c n
  unfolding answer_to plain_look look
  barred = record {
    never = λ a slot passed plain. code_false _ (λ t.
        let t' = subst (λ (o : Outcome). authentic o.answer.code ≡ true) (plain_outcome (settle a slot c n passed plain)) t in
        unknown p a slot c n passed plain B.sane_plain (settle_passed (plain_look p) a slot c n passed plain t') (eqb slot 0) refl known);
    offers = λ h slot H l.
        let i = in_slot h slot H l in
        subst (λ (o : Outcome). RepeatOrOld o.answer.code) (sym (plain_outcome (offer r slot)))
        (offer_again (plain_look p) r slot n good i.0 was.framed i.1 was.spare i.2);
    settles = λ h slot H l count number passed plain.
        let i = in_slot h slot H l in
        subst (λ (o : Outcome). RepeatOrOld o.answer.code) (sym (plain_outcome (settle r slot count number passed plain)))
        (settle_again (plain_look p) r slot n good i.0 was.framed i.1 was.spare i.2 count number passed plain);
    other = λ h slot l. number_other x.setting h (next_in x slot) n r (omega arith);
    dropped = dropped_for_ever x c;
  }

known_settled : (p : Plain) (r : List ℕ) (slot c n : ℕ) (passed : Bool) (plain : List ℕ) → Sane p
    → authentic (outcome (plain_look p) (settle r slot c n passed plain)).answer.code ≡ true → Passed (plain_look p) r slot c n passed plain
    → Known c n (keys_of (after_by plain_look outcome plain_change p (settle r slot c n passed plain)))
unfolding after_by effect_of
known_settled p r slot c n passed plain i t P =
    rw (effect_is (plain_look p) (settle r slot c n passed plain), t) (known_after p r slot c n passed plain i P (eqb slot 0) refl)

after_setting : (p : Plain) (c : Call) → (after_by plain_look outcome plain_change p c).setting ≡ p.setting
unfolding after_by
after_setting p c = same_setting_lem p (outcome (plain_look p) c).effect

after_both : (x : Receiver) (p : Plain) (c : Call) (later : List Call) → Both x p
    → Both (reached (state_after x c) later) (plain_reached (after_by plain_look outcome plain_change p c) later)
unfolding state_after after_by
after_both x p c later B = run_both _ _ later (step_both x p c B)

plain_read : (p : Plain) (r : List ℕ) (slot c n : ℕ) (passed : Bool) (plain : List ℕ) → Passed (plain_look p) r slot c n passed plain
    → ReadAs p.setting (key_at (plain_look p) slot).next r n
unfolding plain_look
plain_read p r slot c n passed plain P =
    record { framed = P.framed; number = sym P.cipher.same_number; spare = P.place.spare }

-- the Settle, and any later calls
after_settle : (x : Receiver) (p : Plain) → Both x p → (r : List ℕ) (slot c n : ℕ) (passed : Bool) (plain : List ℕ)
    → authentic (answer_to x (settle r slot c n passed plain)).code ≡ true → (later : List Call)
    → Barred (reached (state_after x (settle r slot c n passed plain)) later) r c n
unfolding answer_to state_after
after_settle x p B r slot c n passed plain t later =
    let call = settle r slot c n passed plain in
    let same = (step_related x p call B.related).0 in
    let t' : authentic (outcome (plain_look p) call).answer.code ≡ true = subst (λ (o : Outcome). authentic o.answer.code ≡ true) same t in
    let P = settle_passed (plain_look p) r slot c n passed plain t' in
    let p₁ = after_by plain_look outcome plain_change p call in
    let k : Known c n (keys_of p₁) = known_settled p r slot c n passed plain B.sane_plain t' P in
    let q : (plain_reached p₁ later).setting ≡ p.setting = run_setting p₁ later ∙ after_setting p call in
    barred _ (plain_reached p₁ later) (after_both x p call later B) r c n (key_at (plain_look p) slot).next
    (run_kept p₁ later k)
    (subst (λ (s : Setting). ReadAs s (key_at (plain_look p) slot).next r n) (sym q) (plain_read p r slot c n passed plain P))

-- from open: where the open was refused, no record is authentic
pub zero_run : (cs : List Call) → reached zero_receiver cs ≡ zero_receiver
unfolding reach_by after_by state_after
zero_run [] = refl
zero_run (c ∷ cs) = ap (λ (y : Receiver). reached y cs) (zeros_refused c).1 ∙ zero_run cs

state_plain : authentic Refusal.state ≡ false
unfolding authentic Refusal.marks
state_plain = refl

-- what a Settle of r under c and n, answered with 0 or 14, leaves for ever
pub barred_for_ever : (s : Setting) (iv : List ℕ) (before later : List Call) (r : List ℕ) (slot c n : ℕ) (passed : Bool) (plain : List ℕ)
    → authentic (answer_to (reached (open_receiver s iv).next before) (settle r slot c n passed plain)).code ≡ true
    → Barred (reached (state_after (reached (open_receiver s iv).next before) (settle r slot c n passed plain)) later) r c n
unfolding open_rows
barred_for_ever s iv before later r slot c n passed plain = go (bad_setting s) refl
  where
    go : (b : Bool) → bad_setting s ≡ b
        → authentic (answer_to (reached (open_receiver s iv).next before) (settle r slot c n passed plain)).code ≡ true
        → Barred (reached (state_after (reached (open_receiver s iv).next before) (settle r slot c n passed plain)) later) r c n
    go true e = rw (e, zero_run before, (zeros_refused (settle r slot c n passed plain)).0) (λ t. absurd (true_not_false t state_plain))
    go false e =
        rw e (λ t. after_settle (reached (new_receiver s iv) before) (plain_reached (new_plain s iv) before)
        (run_both (new_receiver s iv) (new_plain s iv) before (record { related = related_new s iv e; sane_plain = λ h. absurd (true_not_false h refl) }))
        r slot c n passed plain t later)

-- Request h: without partial numbers the numbers marked under each key count are 0, 1, 2 and on, and no number is missing below E.
-- Assumes nothing.
use Prim.Native.Nat.{ℕ, zero, suc, ◌+◌, ◌-◌, ◌≤◌, ◌<◌, min}
use mathlib.Core.Path.{◌≡◌, refl, sym, ap, ◌∙◌}
use mathlib.Core.Bool.{Bool, true, false, cond, ◌||◌}
use mathlib.Core.List.{List, [], ◌∷◌, ◌++◌, map}
use native.Mathlib.Omega.{arith}
use native.Mathlib.Decide.{dec_lt}
use lib.Dec.{eqb}
use lib.ListN.{length}
use borrow.Author.Tests.{eq-eqb, ne_eqb, eqb-true, eqb-false}
use Rattle.answers.specs.Refusal as Refusal
use Rattle.answers.specs.Refusal.{authentic}
use Rattle.answers.proofs.Tests.{true_not_false, by_cases, or_true_left, or_more}
use Rattle.numbers.specs.Memory.{member, next_of}
use Rattle.numbers.specs.Number.{count, gap_count}
use Rattle.record.proofs.Again.{number_next}
use Rattle.record.specs.Setting.{has_partial, bad_setting, open_rows}
use Rattle.record.specs.declared.setting.Setting.{Setting}
use Rattle.channel.proofs.Outcome.{effect_is, granted_is, refused_is}
use Rattle.channel.proofs.Zeros.{zeros_refused, zeros_bad_receiver}
use Rattle.channel.specs.Call.{Call, offer, settle, gaps, change_key, drop_old, Answer, only, Effect, stay, marking, turning, dropping, Outcome}
use Rattle.channel.specs.Receiver.{new_receiver, zero_receiver, open_receiver, look, change, answer_to}
use Rattle.channel.specs.Rules.{outcome, granted, effect_of}
use Rattle.channel.specs.View.{key_at}
use Rattle.promises.specs.Plain.{PlainKey, Plain, new_plain_key, new_plain, old_of, plain_look, remember, remember_first, plain_change, plain_answers}
use Rattle.promises.specs.Run.{after_by, answers_by, answers_of, reach_by, reached, marked_by, all_marked}
use Rattle.promises.specs.SendRun.{under, from}
use Rattle.promises.proofs.Passed.{Passed, settle_passed}
use Rattle.promises.proofs.Good.{held_there}
use Rattle.promises.proofs.Simulation.{simulate, bad_answers, step_related, related_new}
use Rattle.promises.proofs.Once.{keys_of, Sane, sane}
use Rattle.promises.proofs.Bridge.{plain_reached, run_both, same_setting_lem, zero_run}

-- ---- a key whose numbers are all those below E, the last of them first

unfoldable down : ℕ → List ℕ
down zero = []
down (suc n) = n ∷ down n

down_next : (n : ℕ) → next_of (down n) ≡ n
unfolding down next_of
down_next zero = refl
down_next (suc n) = omega (arith, down_next n)

down_member : (k n : ℕ) → k < n → member k (down n) ≡ true
unfolding down member
down_member k zero h = absurd (omega arith)
down_member k (suc n) h = go (dec_lt k n) (down_member k n)
  where
    go : Dec (k < n) → (k < n → member k (down n) ≡ true) → (eqb k n || member k (down n)) ≡ true
    go (yes p) f = or_more (eqb k n) _ (f p)
    go (no p) f = or_true_left (eqb k n) _ (eq-eqb k n (omega arith))

abbrev Full : PlainKey → Type 0
Full k = k.numbers ≡ down (length k.numbers)

abbrev AllFull : List PlainKey → Type 0
AllFull [] = Unit {0}
AllFull (k ∷ l) = Full k × AllFull l

-- its E is how many numbers it has
full_next : (k : PlainKey) → Full k → next_of k.numbers ≡ length k.numbers
full_next k f = ap next_of f ∙ down_next (length k.numbers)

-- and it stays so where E is marked
full_mark : (k : PlainKey) (n : ℕ) → Full k → n ≡ length k.numbers → Full (remember k n)
unfolding down
full_mark k n f e = λ i. e i ∷ f i

-- ---- how many numbers a receiver has under a key count

unfoldable size_at : ℕ → List PlainKey → ℕ
size_at c [] = 0
size_at c (k ∷ l) = cond (eqb c (length l)) (length k.numbers) (size_at c l)

size_beyond : (c : ℕ) (l : List PlainKey) → length l ≤ c → size_at c l ≡ 0
unfolding size_at
size_beyond c [] h = refl
size_beyond c (k ∷ l) h = rw (ne_eqb c (length l) (λ e. omega arith)) (size_beyond c l (omega arith))

-- a new key has none
size_turn : (c : ℕ) (iv : List ℕ) (l : List PlainKey) → size_at c (new_plain_key iv ∷ l) ≡ size_at c l
unfolding size_at
size_turn c iv l = go (eqb c (length l)) refl
  where
    go : (b : Bool) → eqb c (length l) ≡ b → cond b 0 (size_at c l) ≡ size_at c l
    go true e = let q : c ≡ length l = eqb-true _ _ e in sym (size_beyond c l (omega arith))
    go false e = refl

-- the first key with one number more
size_first : (c n : ℕ) (k : PlainKey) (l : List PlainKey) → n ≡ length k.numbers
    → size_at c (remember k n ∷ l) ≡ cond (eqb c (length l)) (n + 1) (size_at c (k ∷ l))
unfolding size_at
size_first c n k l h = go (eqb c (length l))
  where
    go : (b : Bool) → cond b (suc (length k.numbers)) (size_at c l) ≡ cond b (n + 1) (cond b (length k.numbers) (size_at c l))
    go true = omega arith
    go false = refl

size_own : (n : ℕ) (k : PlainKey) (l : List PlainKey) → n ≡ length k.numbers → size_at (length l) (k ∷ l) ≡ n
unfolding size_at
size_own n k l h = rw (eq-eqb (length l) (length l) refl) (sym h)

-- ---- a call of the plain receiver

-- a receiver without partial numbers, of which every key is full
record Ordered (p : Plain) : Type 0 where
  bare : has_partial p.setting ≡ false
  sane_plain : Sane p
  full : AllFull (keys_of p)

-- two tests that do not both hold may be asked in either order
swap : {A : Type 0} (a b : Bool) (x y z : A) → (a ≡ true → b ≡ false) → cond a x (cond b y z) ≡ cond b y (cond a x z)
swap true true x y z h = absurd (true_not_false refl (h refl))
swap true false x y z h = refl
swap false b x y z h = refl

-- behind another key the second has one number more
size_second : (c n : ℕ) (k k' : PlainKey) (l : List PlainKey) → n ≡ length k'.numbers
    → size_at c (k ∷ remember k' n ∷ l) ≡ cond (eqb c (length l)) (n + 1) (size_at c (k ∷ k' ∷ l))
unfolding size_at
size_second c n k k' l h =
    ap (λ (z : ℕ). cond (eqb c (suc (length l))) (length k.numbers) z) (size_first c n k' l h)
    ∙ sym (swap (eqb c (length l)) (eqb c (suc (length l))) (n + 1) (length k.numbers) (size_at c (k' ∷ l))
    (λ e. let q : c ≡ length l = eqb-true _ _ e in ne_eqb c (suc (length l)) (λ z. omega arith)))

size_old : (n : ℕ) (k k' : PlainKey) (l : List PlainKey) → n ≡ length k'.numbers → size_at (length l) (k ∷ k' ∷ l) ≡ n
unfolding size_at
size_old n k k' l h = rw (ne_eqb (length l) (suc (length l)) (λ z. omega arith)) (size_own n k' l h)

-- what marking n under the key count leaves
record Grown (count n : ℕ) (before after : List PlainKey) : Type 0 where
  is_next : size_at count before ≡ n
  grown : (c : ℕ) → size_at c after ≡ cond (eqb c count) (n + 1) (size_at c before)
  stay_full : AllFull after

-- the current key, one number more
grow_now : (k : PlainKey) (past : List PlainKey) (count n : ℕ) → AllFull (k ∷ past) → count ≡ length past → n ≡ next_of k.numbers
    → Grown count n (k ∷ past) (remember k n ∷ past)
grow_now k past count n f c e =
    let q : n ≡ length k.numbers = e ∙ full_next k f.0 in
    rw c (record {
      is_next = size_own n k past q;
      grown = λ d. size_first d n k past q;
      stay_full = (full_mark k n f.0 q, f.1);
    })

-- the old key, one number more
grow_old : (k : PlainKey) (past : List PlainKey) (b : Bool) (count n : ℕ) → (b ≡ true → 0 < length past) → b ≡ true → AllFull (k ∷ past)
    → count ≡ length past - 1 → n ≡ next_of (old_of b past).numbers → Grown count n (k ∷ past) (k ∷ remember_first past n)
unfolding old_of remember_first
grow_old k past false count n i t f c e = absurd (true_not_false t refl)
grow_old k [] true count n i t f c e = let z = i refl in absurd (omega arith)
grow_old k (k' ∷ past) true count n i t f c e =
    let q : n ≡ length k'.numbers = e ∙ full_next k' f.1.0 in
    let d : count ≡ length past = omega arith in
    rw d (record {
      is_next = size_old n k k' past q;
      grown = λ c'. size_second c' n k k' past q;
      stay_full = (f.0, (full_mark k' n f.1.0 q, f.1.1));
    })

settle_next : (p : Plain) (r : List ℕ) (slot count n : ℕ) (passed : Bool) (plain : List ℕ) → Ordered p
    → Passed (plain_look p) r slot count n passed plain → (b : Bool) → eqb slot 0 ≡ b
    → Grown count n (keys_of p) (keys_of (plain_change p (marking slot n)))
unfolding keys_of plain_look plain_change
settle_next p r slot count n passed plain O P true e =
    rw e (grow_now p.now p.past count n O.full (rw e at P.cipher.same_count)
    (P.cipher.same_number ∙ number_next p.setting _ r O.bare ∙ rw e))
settle_next p r slot count n passed plain O P false e =
    rw e (grow_old p.now p.past p.held count n O.sane_plain (held_there (plain_look p) slot P.in_slot.key e) O.full
    (rw e at P.cipher.same_count) (P.cipher.same_number ∙ number_next p.setting _ r O.bare ∙ rw e))

-- an effect that marks nothing
abbrev Quiet : Effect → Type 0
Quiet stay = Unit {0}
Quiet (marking slot n) = ⊥
Quiet (turning iv) = Unit {0}
Quiet dropping = Unit {0}

-- it leaves all numbers as they are
abbrev Same : List PlainKey → List PlainKey → Type 0
Same before after = ((c : ℕ) → size_at c after ≡ size_at c before) × AllFull after

quiet_same : (p : Plain) (e : Effect) → Quiet e → Ordered p → Same (keys_of p) (keys_of (plain_change p e))
unfolding keys_of plain_change down
quiet_same p stay q O = ((λ c. refl), O.full)
quiet_same p (marking slot n) q O = elim q [ ]
quiet_same p (turning iv) q O = ((λ c. size_turn c iv (p.now ∷ p.past)), (refl, O.full))
quiet_same p dropping q O = ((λ c. refl), O.full)

-- a call marks nothing, or the next number under its key count
data Next (p : Plain) (c : Call) (o : Outcome) : Type 0 where
  idle : marked_by c o.answer ≡ [] → Same (keys_of p) (keys_of (plain_change p o.effect)) → Next p c o
  marks : {count n : ℕ} → marked_by c o.answer ≡ (count, n) ∷ [] → Grown count n (keys_of p) (keys_of (plain_change p o.effect)) → Next p c o

quiet_next : (p : Plain) (c : Call) → Ordered p → Quiet (effect_of c) → marked_by c (outcome (plain_look p) c).answer ≡ [] → Next p c (outcome (plain_look p) c)
quiet_next p c O q m =
    idle m (rw (effect_is (plain_look p) c)
    (by_cases (λ (e : Effect). Same (keys_of p) (keys_of (plain_change p e))) (authentic (outcome (plain_look p) c).answer.code) (effect_of c) stay
    (λ h. quiet_same p (effect_of c) q O) (λ h. quiet_same p stay tt O)))

settle_step : (p : Plain) (r : List ℕ) (slot count n : ℕ) (passed : Bool) (plain : List ℕ) → Ordered p → (o : Outcome)
    → (authentic o.answer.code ≡ true → Passed (plain_look p) r slot count n passed plain)
    → o.effect ≡ cond (authentic o.answer.code) (marking slot n) stay → Next p (settle r slot count n passed plain) o
unfolding marked_by
settle_step p r slot count n passed plain O o q e = go (authentic o.answer.code) refl
  where
    go : (b : Bool) → authentic o.answer.code ≡ b → Next p (settle r slot count n passed plain) o
    go true h = marks {count = count} {n = n} (rw h) (rw (e, h) (settle_next p r slot count n passed plain O (q h) (eqb slot 0) refl))
    go false h = idle (rw h) (rw (e, h) (quiet_same p stay tt O))

step : (p : Plain) (c : Call) → Ordered p → Next p c (outcome (plain_look p) c)
unfolding marked_by effect_of
step p (offer r slot) O = quiet_next p (offer r slot) O tt refl
step p (settle r slot count n passed plain) O =
    settle_step p r slot count n passed plain O _ (settle_passed (plain_look p) r slot count n passed plain)
    (effect_is (plain_look p) (settle r slot count n passed plain))
step p (gaps slot) O = quiet_next p (gaps slot) O tt refl
step p (change_key iv) O = quiet_next p (change_key iv) O tt refl
step p drop_old O = quiet_next p drop_old O tt refl

next_full : {p : Plain} {c : Call} {o : Outcome} → Next p c o → AllFull (keys_of (plain_change p o.effect))
next_full (idle m q) = q.1
next_full (marks m g) = g.stay_full

ordered_after : (p : Plain) (c : Call) → Ordered p → Ordered (plain_change p (outcome (plain_look p) c).effect)
ordered_after p c O =
    let e = (outcome (plain_look p) c).effect in
    record { bare = rw (same_setting_lem p e) O.bare; sane_plain = sane p e O.sane_plain; full = next_full (step p c O) }

-- ---- a run

-- the numbers of a list go on from n
abbrev GoesOn : ℕ → List ℕ → Type 0
GoesOn n l = l ≡ from n (length l)

goes_on : (n : ℕ) (l : List ℕ) → GoesOn (n + 1) l → GoesOn n (n ∷ l)
unfolding from
goes_on n l h = ap (λ (x : List ℕ). n ∷ x) h

-- one number more under its key count
goes_on_under : (count n k a b : ℕ) (rest : List (ℕ × ℕ)) → (count ≡ k → a ≡ n) → b ≡ cond (eqb k count) (n + 1) a → GoesOn b (under k rest)
    → GoesOn a (under k ((count, n) ∷ rest))
unfolding under
goes_on_under count n k a b rest first more h = go (eqb count k) refl
  where
    go : (t : Bool) → eqb count k ≡ t → GoesOn a (cond t (n ∷ under k rest) (under k rest))
    go true e =
        let q : count ≡ k = eqb-true _ _ e in
        let z : b ≡ n + 1 = more ∙ rw (eq-eqb k count (sym q)) in
        rw (first q) (goes_on n (under k rest) (rw z at h))
    go false e =
        let z : b ≡ a = more ∙ rw (ne_eqb k count (λ q. eqb-false count k e (sym q))) in
        rw z at h

add : (p : Plain) (c : Call) (o : Outcome) (rest : List (ℕ × ℕ)) (k : ℕ) → Next p c o
    → GoesOn (size_at k (keys_of (plain_change p o.effect))) (under k rest) → GoesOn (size_at k (keys_of p)) (under k (marked_by c o.answer ++ rest))
add p c o rest k (idle m q) h = rw (m, ← (q.0 k)) h
add p c o rest k (marks {count} {n} m g) h =
    rw m (goes_on_under count n k (size_at k (keys_of p)) _ rest (λ e. ap (λ (x : ℕ). size_at x (keys_of p)) (sym e) ∙ g.is_next) (g.grown k) h)

goes_on_run : (p : Plain) (cs : List Call) (k : ℕ) → Ordered p → GoesOn (size_at k (keys_of p)) (under k (all_marked cs (plain_answers p cs)))
unfolding answers_by after_by all_marked under from
goes_on_run p [] k O = refl
goes_on_run p (c ∷ cs) k O =
    add p c (outcome (plain_look p) c) _ k (step p c O) (goes_on_run (plain_change p (outcome (plain_look p) c).effect) cs k (ordered_after p c O))

ordered_run : (p : Plain) (cs : List Call) → Ordered p → Ordered (plain_reached p cs)
unfolding reach_by after_by plain_reached
ordered_run p [] O = O
ordered_run p (c ∷ cs) O = ordered_run (plain_change p (outcome (plain_look p) c).effect) cs (ordered_after p c O)

ordered_new : (s : Setting) (iv : List ℕ) → has_partial s ≡ false → Ordered (new_plain s iv)
unfolding keys_of down
ordered_new s iv h = record { bare = h; sane_plain = λ e. absurd (true_not_false e refl); full = (refl, tt) }

size_new : (s : Setting) (iv : List ℕ) (k : ℕ) → size_at k (keys_of (new_plain s iv)) ≡ 0
unfolding keys_of size_at
size_new s iv k = size_turn k iv []

-- ---- no gaps

count_none : (p : ℕ → Bool) (k : ℕ) → ((i : ℕ) → i < k → p i ≡ false) → count p k ≡ 0
unfolding count
count_none p zero h = refl
count_none p (suc k) h = rw (count_none p k (λ i l. h i (omega arith)), h k (omega arith))

full_gaps : (w : ℕ) (k : PlainKey) → Full k → gap_count w (next_of k.numbers) (λ n. member n k.numbers) ≡ 0
unfolding gap_count
full_gaps w k f =
    let n : ℕ = length k.numbers in
    rw (full_next k f) (count_none _ (min w n)
    (λ i l. rw (ap (member (n - 1 - i)) f ∙ down_member (n - 1 - i) n (omega arith))))

old_full : (b : Bool) (past : List PlainKey) → AllFull past → Full (old_of b past)
unfolding old_of down
old_full false past f = refl
old_full true [] f = refl
old_full true (k ∷ past) f = f.0

slot_gaps : (p : Plain) (w slot : ℕ) → Ordered p → gap_count w (key_at (plain_look p) slot).next (key_at (plain_look p) slot).seen ≡ 0
unfolding plain_look keys_of
slot_gaps p w slot O = go (eqb slot 0) refl
  where
    go : (b : Bool) → eqb slot 0 ≡ b → gap_count w (key_at (plain_look p) slot).next (key_at (plain_look p) slot).seen ≡ 0
    go true e = rw e (full_gaps w p.now O.full.0)
    go false e = rw e (full_gaps w (old_of p.held p.past) (old_full p.held p.past O.full.1))

plain_gaps_lem : (p : Plain) (slot : ℕ) → Ordered p → (outcome (plain_look p) (gaps slot)).answer.gaps ≡ 0
unfolding granted
plain_gaps_lem p slot O = go (eqb (outcome (plain_look p) (gaps slot)).answer.code 0) refl
  where
    go : (b : Bool) → eqb (outcome (plain_look p) (gaps slot)).answer.code 0 ≡ b → (outcome (plain_look p) (gaps slot)).answer.gaps ≡ 0
    go true e = ap (λ (a : Answer). a.gaps) (granted_is (plain_look p) (gaps slot) (eqb-true _ _ e)) ∙ slot_gaps p _ slot O
    go false e = ap (λ (a : Answer). a.gaps) (refused_is (plain_look p) (gaps slot) (eqb-false _ _ e))

-- ---- the receiver with its window

-- after an open that was refused nothing is marked
none_marked : (cs : List Call) → all_marked cs (map (λ (c : Call). only Refusal.state) cs) ≡ []
unfolding all_marked marked_by authentic Refusal.marks
none_marked [] = refl
none_marked (offer r slot ∷ cs) = none_marked cs
none_marked (settle r slot count n passed plain ∷ cs) = none_marked cs
none_marked (gaps slot ∷ cs) = none_marked cs
none_marked (change_key iv ∷ cs) = none_marked cs
none_marked (drop_old ∷ cs) = none_marked cs

-- in any run from a new channel the numbers marked under each key count are 0, 1, 2 and on
pub marked_in_order : (s : Setting) (iv : List ℕ) (calls : List Call) (c : ℕ) → has_partial s ≡ false
    → let l = under c (all_marked calls (answers_of (open_receiver s iv).next calls)) in l ≡ from 0 (length l)
unfolding open_rows change look under from
marked_in_order s iv calls c h = go (bad_setting s) refl
  where
    go : (b : Bool) → bad_setting s ≡ b
        → let l = under c (all_marked calls (answers_of (open_receiver s iv).next calls)) in l ≡ from 0 (length l)
    go true e = rw (e, bad_answers look change zero_receiver refl zeros_bad_receiver calls, none_marked calls)
    go false e =
        rw (e, simulate (new_receiver s iv) (new_plain s iv) calls (related_new s iv e))
        (rw (size_new s iv c) at (goes_on_run (new_plain s iv) calls c (ordered_new s iv h)))

-- and the gap count is always 0
pub never_gaps : (s : Setting) (iv : List ℕ) (calls : List Call) (slot : ℕ) → has_partial s ≡ false
    → (answer_to (reached (open_receiver s iv).next calls) (gaps slot)).gaps ≡ 0
unfolding open_rows answer_to
never_gaps s iv calls slot h = go (bad_setting s) refl
  where
    go : (b : Bool) → bad_setting s ≡ b → (answer_to (reached (open_receiver s iv).next calls) (gaps slot)).gaps ≡ 0
    go true e = rw (e, zero_run calls) (ap (λ (a : Answer). a.gaps) (zeros_refused (gaps slot)).0)
    go false e =
        let r = reached (new_receiver s iv) calls in
        let p = plain_reached (new_plain s iv) calls in
        let B = run_both (new_receiver s iv) (new_plain s iv) calls (record { related = related_new s iv e; sane_plain = λ z. absurd (true_not_false z refl) }) in
        rw e
        (ap (λ (o : Outcome). o.answer.gaps) (step_related r p (gaps slot) B.related).0
        ∙ plain_gaps_lem p slot (ordered_run (new_plain s iv) calls (ordered_new s iv h)))

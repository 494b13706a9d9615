-- T2: no number is marked, and so none handed out, twice under one key.
-- Assumes nothing.
use Prim.Native.Nat.{ℕ, ◌-◌, ◌<◌}
use mathlib.Core.Path.{◌≡◌, refl, sym, ◌∙◌, subst}
use mathlib.Core.Logic.{inl, inr}
use mathlib.Core.Bool.{Bool, true, false, cond, ◌||◌}
use mathlib.Core.List.Memᴰ
use mathlib.Core.List.{List, [], ◌∷◌, ◌++◌, Memᴰ, map, Sublistᴰ}
use native.Mathlib.Omega.{arith}
use lib.Dec.{eqb}
use lib.ListN.{length}
use borrow.Author.Tests.{eq-eqb}
use Rattle.channel.proofs.Outcome.{effect_is}
use Rattle.answers.specs.Refusal.{authentic}
use Rattle.answers.proofs.Tests.{true_not_false, by_cases, or_true_left, or_more}
use Rattle.answers.specs.Refusal as Refusal
use Rattle.channel.specs.Call.{Call, offer, settle, gaps, change_key, drop_old, Answer, Effect, stay, marking, turning, dropping, Outcome}
use Rattle.channel.specs.Receiver.{open_receiver}
use Rattle.channel.specs.Rules.{outcome, effect_of}
use Rattle.numbers.specs.Memory.{member}
use Rattle.record.specs.Setting.{bad_setting}
use Rattle.record.specs.declared.setting.Setting.{Setting}
use Rattle.promises.specs.Distinct.{Distinct, none, more}
use Rattle.promises.specs.Run.{after_by, answers_by, answers_of, marked_by, all_marked, Item, pair_of, handed_by, all_handed}
use Rattle.promises.specs.Plain.{PlainKey, Plain, open_plain, old_of, plain_look, remember, remember_first, plain_change, plain_answers}
use Rattle.promises.proofs.Passed.{Passed, settle_passed}
use Rattle.promises.proofs.Good.{held_there}
use Rattle.promises.proofs.Simulation.{as_plain}

-- ---- what the plain receiver remembers: n is among the numbers of the key with count c

pub data Known (c n : ℕ) : List PlainKey → Type 0 where
  here : {k : PlainKey} {past : List PlainKey} → c ≡ length past → member n k.numbers ≡ true → Known c n (k ∷ past)
  there : {k : PlainKey} {past : List PlainKey} → Known c n past → Known c n (k ∷ past)

unfoldable pub keys_of : Plain → List PlainKey
keys_of p = p.now ∷ p.past

below : {c n : ℕ} {l : List PlainKey} → Known c n l → c < length l
below (here e h) = omega arith
below (there k) = let i = below k in omega arith

-- the numbers under the current and under the old key's count are those keys' own
pub known_now : {c n : ℕ} {k : PlainKey} {past : List PlainKey} → Known c n (k ∷ past) → c ≡ length past → member n k.numbers ≡ true
known_now (here e h) f = h
known_now (there k) f = let i = below k in absurd (omega arith)

pub known_older : {c n : ℕ} {k : PlainKey} {past : List PlainKey} → Known c n (k ∷ past) → c < length past → Known c n past
known_older (here e h) f = absurd (omega arith)
known_older (there k) f = k

-- no effect forgets anything
remember_more : {c n : ℕ} {k : PlainKey} {past : List PlainKey} (m : ℕ) → Known c n (k ∷ past) → Known c n (remember k m ∷ past)
unfolding member
remember_more {n} m (here e h) = here e (or_more (eqb n m) _ h)
remember_more m (there k) = there k

first_more : {c n : ℕ} (m : ℕ) (past : List PlainKey) → Known c n past → Known c n (remember_first past m)
unfolding remember_first
first_more m [] h = h
first_more m (k ∷ past) h = remember_more m h

now_more : {c n : ℕ} {k : PlainKey} (m : ℕ) (past : List PlainKey) → Known c n (k ∷ past) → Known c n (k ∷ remember_first past m)
unfolding remember_first
now_more m [] h = h
now_more m (k ∷ past) (here e h) = here e h
now_more m (k ∷ past) (there h) = there (remember_more m h)

-- a number marked in a slot
pub mark_kept : {c n : ℕ} (p : Plain) (slot m : ℕ) (b : Bool) → eqb slot 0 ≡ b → Known c n (keys_of p) → Known c n (keys_of (plain_change p (marking slot m)))
unfolding keys_of plain_change
mark_kept p slot m true e h = rw e (remember_more m h)
mark_kept p slot m false e h = rw e (now_more m p.past h)

pub kept : {c n : ℕ} (p : Plain) (e : Effect) → Known c n (keys_of p) → Known c n (keys_of (plain_change p e))
unfolding keys_of plain_change
kept p stay h = h
kept p (marking slot m) h = mark_kept p slot m (eqb slot 0) refl h
kept p (turning iv) h = there h
kept p dropping h = h

-- ---- a call that marks, marks what was not known, and what is known after it

-- the old key can be reached only where there is one
abbrev pub Sane : Plain → Type 0
Sane p = p.held ≡ true → 0 < length p.past

pub data Step (p : Plain) (c : Call) (o : Outcome) : Type 0 where
  idle : marked_by c o.answer ≡ [] → Step p c o
  marks : {count n : ℕ} → marked_by c o.answer ≡ (count, n) ∷ [] → (Known count n (keys_of p) → ⊥)
      → Known count n (keys_of (plain_change p o.effect)) → Step p c o

unknown_old : (b : Bool) (k : PlainKey) (past : List PlainKey) (count n : ℕ) → (b ≡ true → 0 < length past) → b ≡ true
    → count ≡ length past - 1 → member n (old_of b past).numbers ≡ false → Known count n (k ∷ past) → ⊥
unfolding old_of
unknown_old false k past count n i t c f h = true_not_false t refl
unknown_old true k [] count n i t c f h = let z = i refl in omega arith
unknown_old true k (k' ∷ past) count n i t c f h = true_not_false (known_now (known_older h (omega arith)) (omega arith)) f

known_remembered : (k : PlainKey) (past : List PlainKey) (count n : ℕ) → count ≡ length past → Known count n (remember k n ∷ past)
unfolding member
known_remembered k past count n c = here c (or_true_left (eqb n n) _ (eq-eqb n n refl))

known_old : (k : PlainKey) (past : List PlainKey) (count n : ℕ) → 0 < length past → count ≡ length past - 1 → Known count n (k ∷ remember_first past n)
unfolding remember_first
known_old k [] count n i c = absurd (omega arith)
known_old k (k' ∷ past) count n i c = there (known_remembered k' past count n (omega arith))

-- the slot that an authentic record was taken from, by its test
module _ (p : Plain) (r : List ℕ) (slot count n : ℕ) (passed : Bool) (plain : List ℕ) (i : Sane p)
    (q : Passed (plain_look p) r slot count n passed plain) where
  pub unknown : (b : Bool) → eqb slot 0 ≡ b → Known count n (keys_of p) → ⊥
  unfolding keys_of plain_look
  unknown true e h = true_not_false (known_now h (rw e at q.cipher.same_count)) (rw e at q.place.fresh)
  unknown false e h =
      unknown_old p.held p.now p.past count n i (held_there (plain_look p) slot q.in_slot.key e)
      (rw e at q.cipher.same_count) (rw e at q.place.fresh) h

  pub known_after : (b : Bool) → eqb slot 0 ≡ b → Known count n (keys_of (plain_change p (marking slot n)))
  unfolding keys_of plain_look plain_change
  known_after true e = rw e (known_remembered p.now p.past count n (rw e at q.cipher.same_count))
  known_after false e =
      rw e (known_old p.now p.past count n (i (held_there (plain_look p) slot q.in_slot.key e)) (rw e at q.cipher.same_count))

settle_step : (p : Plain) (r : List ℕ) (slot count n : ℕ) (passed : Bool) (plain : List ℕ) → Sane p → (o : Outcome)
    → (authentic o.answer.code ≡ true → Passed (plain_look p) r slot count n passed plain)
    → o.effect ≡ cond (authentic o.answer.code) (marking slot n) stay → Step p (settle r slot count n passed plain) o
unfolding marked_by
settle_step p r slot count n passed plain i o q e = go (authentic o.answer.code) refl
  where
    go : (b : Bool) → authentic o.answer.code ≡ b → Step p (settle r slot count n passed plain) o
    go true h = marks {count = count} {n = n} (rw h) (unknown p r slot count n passed plain i (q h) (eqb slot 0) refl) (rw (e, h) (known_after p r slot count n passed plain i (q h) (eqb slot 0) refl))
    go false h = idle (rw h)

pub step : (p : Plain) (c : Call) → Sane p → Step p c (outcome (plain_look p) c)
unfolding marked_by effect_of
step p (offer r slot) i = idle refl
step p (settle r slot count n passed plain) i =
    settle_step p r slot count n passed plain i _ (settle_passed (plain_look p) r slot count n passed plain)
    (effect_is (plain_look p) (settle r slot count n passed plain))
step p (gaps slot) i = idle refl
step p (change_key iv) i = idle refl
step p drop_old i = idle refl

sane_first : (past : List PlainKey) (n : ℕ) → 0 < length past → 0 < length (remember_first past n)
unfolding remember_first
sane_first [] n h = h
sane_first (k ∷ past) n h = omega arith

sane_mark : (p : Plain) (slot n : ℕ) (b : Bool) → eqb slot 0 ≡ b → Sane p → Sane (plain_change p (marking slot n))
unfolding plain_change
sane_mark p slot n true e i = rw e i
sane_mark p slot n false e i = rw e (λ h. sane_first p.past n (i h))

pub sane : (p : Plain) (e : Effect) → Sane p → Sane (plain_change p e)
unfolding plain_change
sane p stay i = i
sane p (marking slot n) i = sane_mark p slot n (eqb slot 0) refl i
sane p (turning iv) i = λ h. omega arith
sane p dropping i = λ h. absurd (true_not_false h refl)

-- ---- a run

abbrev pub Fresh : Plain → List (ℕ × ℕ) → Type 0
Fresh p l = (x : ℕ × ℕ) → Memᴰ x l → Known x.0 x.1 (keys_of p) → ⊥

add : (p : Plain) (c : Call) (o : Outcome) (l : List (ℕ × ℕ)) → Step p c o → Distinct l → Fresh (plain_change p o.effect) l
    → Distinct (marked_by c o.answer ++ l) × Fresh p (marked_by c o.answer ++ l)
add p c o l (idle e) d f = rw e (d, λ x m h. f x m (kept p o.effect h))
add p c o l (marks {count} {n} e u k) d f =
    rw e (
      more (λ m. f (count, n) m k) d,
      λ x m h. elim (Memᴰ.cases_cons m) [
        | inl q ↦ u (subst (λ (y : ℕ × ℕ). Known y.0 y.1 (keys_of p)) q h)
        | inr m' ↦ f x m' (kept p o.effect h)
      ],
    )

pub once : (p : Plain) (cs : List Call) → Sane p → Distinct (all_marked cs (plain_answers p cs)) × Fresh p (all_marked cs (plain_answers p cs))
unfolding answers_by after_by all_marked
once p [] i = (none, λ x m h. elim m [ ])
once p (c ∷ cs) i =
    let o = outcome (plain_look p) c in
    let rest = once (plain_change p o.effect) cs (sane p o.effect i) in
    add p c o _ (step p c i) rest.0 rest.1

-- ---- what is handed out is a part of what is marked

sub_mem : {A : Type 0} {x : A} {l m : List A} → Sublistᴰ l m → Memᴰ x l → Memᴰ x m
sub_mem Sublistᴰ.slnil h = h
sub_mem (Sublistᴰ.cons s) h = Memᴰ.tail (sub_mem s h)
sub_mem (Sublistᴰ.cons-cons e s) (Memᴰ.head q) = Memᴰ.head (q ∙ e)
sub_mem (Sublistᴰ.cons-cons e s) (Memᴰ.tail h) = Memᴰ.tail (sub_mem s h)

sub_distinct : {A : Type 0} {l m : List A} → Sublistᴰ l m → Distinct m → Distinct l
sub_distinct Sublistᴰ.slnil d = none
sub_distinct (Sublistᴰ.cons s) (more u d) = sub_distinct s d
sub_distinct (Sublistᴰ.cons-cons e s) (more u d) = more (λ h. u (Memᴰ.cast (sym e) (sub_mem s h))) (sub_distinct s d)

settle_part : (b d : Bool) (x : Item) (l : List Item) (m : List (ℕ × ℕ)) → Sublistᴰ (map pair_of l) m
    → Sublistᴰ (map pair_of (cond b (x ∷ []) [] ++ l)) (cond (b || d) (pair_of x ∷ []) [] ++ m)
settle_part true d x l m h = Sublistᴰ.cons-cons refl h
settle_part false true x l m h = Sublistᴰ.cons h
settle_part false false x l m h = h

handed_part : (s : Setting) (cs : List Call) (as' : List Answer) → Sublistᴰ (map pair_of (all_handed s cs as')) (all_marked cs as')
unfolding all_handed all_marked handed_by marked_by authentic
handed_part s [] as' = Sublistᴰ.slnil
handed_part s (c ∷ cs) [] = Sublistᴰ.slnil
handed_part s (offer r slot ∷ cs) (a ∷ as') = handed_part s cs as'
handed_part s (settle r slot count number passed plain ∷ cs) (a ∷ as') =
    settle_part (eqb a.code 0) (Refusal.marks a.code) _ _ _ (handed_part s cs as')
handed_part s (gaps slot ∷ cs) (a ∷ as') = handed_part s cs as'
handed_part s (change_key iv ∷ cs) (a ∷ as') = handed_part s cs as'
handed_part s (drop_old ∷ cs) (a ∷ as') = handed_part s cs as'

-- ---- the receiver with its window

pub sane_open : (s : Setting) (iv : List ℕ) → Sane (open_plain s iv)
sane_open s iv =
    by_cases Sane (bad_setting s) _ _ (λ e h. absurd (true_not_false h refl)) (λ e h. absurd (true_not_false h refl))

pub marked_once : (s : Setting) (iv : List ℕ) (calls : List Call) → Distinct (all_marked calls (answers_of (open_receiver s iv).next calls))
marked_once s iv calls = rw (as_plain s iv calls) (once (open_plain s iv) calls (sane_open s iv)).0

pub handed_once : (s : Setting) (iv : List ℕ) (calls : List Call)
    → Distinct (map pair_of (all_handed s calls (answers_of (open_receiver s iv).next calls)))
handed_once s iv calls = sub_distinct (handed_part s calls _) (marked_once s iv calls)

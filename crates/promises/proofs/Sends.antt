-- T3: a sender's run uses 0, 1, 2 and on under each key, none twice.
-- Assumes nothing.
use Prim.Native.Nat.{ℕ, ◌+◌, ◌≤◌, ◌<◌}
use mathlib.Core.Path.{◌≡◌, refl, ap, sym, ◌∙◌}
use mathlib.Core.Logic.{◌⊎◌, inl, inr}
use mathlib.Core.Bool.{Bool, true, false, cond}
use mathlib.Core.List.Memᴰ
use mathlib.Core.List.{List, [], ◌∷◌, ◌++◌, Memᴰ}
use native.Mathlib.Omega.{arith}
use lib.Dec.{eqb}
use lib.ListN.{length}
use borrow.Author.Tests.{eqb-true, eq-eqb, ne_eqb}
use Rattle.answers.proofs.Tests.{true_not_false, by_cases}
use Rattle.answers.specs.Table.{first}
use Rattle.channel.specs.Sender.{spent, turn_to, open_sender, build_rows, change_rows, build_of, change_sender}
use Rattle.channel.specs.declared.ffi.Built.{Built}
use Rattle.channel.specs.declared.sender.Sender.{Sender}
use Rattle.channel.specs.declared.ffi.SenderStep.{SenderStep}
use Rattle.record.specs.Setting.{open_rows}
use Rattle.record.specs.declared.setting.Setting.{Setting}
use Rattle.promises.specs.Distinct.{Distinct, none, more}
use Rattle.promises.specs.SendRun.{Send, build, turn_key, failed, sending, used_by, used, sent_by, sender_after, turns_by, turns_in, under, builds_under, from}

-- ---- one call

-- Build answers 0 with the next number and spends it, or keeps the state
pub data Builds (s : Sender) (b : Built) : Type 0 where
  granted : b.answer ≡ 0 → b.number ≡ s.next → b.next ≡ spent s → Builds s b
  kept : eqb b.answer 0 ≡ false → b.next ≡ s → Builds s b

pub builds : (s : Sender) (p q room : ℕ) → Builds s (build_of s p q room)
unfolding build_of
builds s p q room =
    by_cases (Builds s) (eqb (first (build_rows s p q room)) 0) _ _ (λ h. granted refl refl refl) (λ h. kept h refl)

-- a key change raises the key count and starts at number 0, or keeps the state
pub data Turns (s : Sender) (iv : List ℕ) (t : SenderStep) : Type 0 where
  granted : t.answer ≡ 0 → t.next ≡ turn_to s iv → Turns s iv t
  kept : eqb t.answer 0 ≡ false → t.next ≡ s → Turns s iv t

pub turns : (s : Sender) (iv : List ℕ) → Turns s iv (change_sender s iv)
unfolding change_sender
turns s iv = by_cases (Turns s iv) (eqb (first (change_rows s)) 0) _ _ (λ h. granted refl refl) (λ h. kept h refl)

-- ---- a list of pairs that goes on from number n of key count k

-- a pair that is used then or later
Later : ℕ → ℕ → ℕ × ℕ → Type 0
Later k n x = (k < x.0) ⊎ ((x.0 ≡ k) × (n ≤ x.1))

-- the first number still to be used under the key count c
start : ℕ → ℕ → ℕ → ℕ
start k n c = cond (eqb k c) n 0

record Run (k n : ℕ) (l : List (ℕ × ℕ)) : Type 0 where
  later : (x : ℕ × ℕ) → Memᴰ x l → Later k n x
  apart : Distinct l
  order : (c : ℕ) → under c l ≡ from (start k n c) (length (under c l))

run_nil : (k n : ℕ) → Run k n []
unfolding under from
run_nil k n = record { later = λ x m. elim m [ ]; apart = none; order = λ c. refl }

later_cons : (k n : ℕ) (x : ℕ × ℕ) → Later k (n + 1) x → Later k n x
unfolding Later
later_cons k n x (inl h) = inl h
later_cons k n x (inr (h, g)) = inr (h, omega arith)

later_first : (k n : ℕ) (x : ℕ × ℕ) → x ≡ (k, n) → Later k n x
unfolding Later
later_first k n x e = rw e (inr (refl, omega arith))

later_not : (k n : ℕ) → Later k (n + 1) (k, n) → ⊥
unfolding Later
later_not k n (inl h) = omega arith
later_not k n (inr h) = omega arith

order_cons : (k n c : ℕ) (l : List (ℕ × ℕ)) → under c l ≡ from (start k (n + 1) c) (length (under c l))
    → under c ((k, n) ∷ l) ≡ from (start k n c) (length (under c ((k, n) ∷ l)))
unfolding under start from
order_cons k n c l e = go (eqb k c) e
  where
    go : (b : Bool) → under c l ≡ from (cond b (n + 1) 0) (length (under c l))
        → cond b (n ∷ under c l) (under c l) ≡ from (cond b n 0) (length (cond b (n ∷ under c l) (under c l)))
    go true e = ap (λ (t : List ℕ). n ∷ t) e
    go false e = e

run_cons : (k n : ℕ) (l : List (ℕ × ℕ)) → Run k (n + 1) l → Run k n ((k, n) ∷ l)
unfolding Later
run_cons k n l R =
    record {
      later = λ x m. elim (Memᴰ.cases_cons m) [ inl e ↦ later_first k n x e | inr m' ↦ later_cons k n x (R.later x m') ];
      apart = more (λ m. later_not k n (R.later (k, n) m)) R.apart;
      order = λ c. order_cons k n c l (R.order c);
    }

later_turn : (k n : ℕ) (x : ℕ × ℕ) → Later (k + 1) 0 x → Later k n x
unfolding Later
later_turn k n x (inl h) = inl (omega arith)
later_turn k n x (inr h) = inl (omega arith)

-- nothing is used under a key count that is gone
under_none : (c : ℕ) (l : List (ℕ × ℕ)) → ((x : ℕ × ℕ) → Memᴰ x l → c < x.0) → under c l ≡ []
unfolding under
under_none c [] h = refl
under_none c (x ∷ l) h =
    let z : c < x.0 = h x (Memᴰ.head refl) in
    rw (ne_eqb x.0 c (omega arith)) (under_none c l (λ y m. h y (Memᴰ.tail m)))

start_zero : (k c : ℕ) → start k 0 c ≡ 0
unfolding start
start_zero k c = by_cases (λ (x : ℕ). x ≡ 0) (eqb k c) 0 0 (λ h. refl) (λ h. refl)

later_gone : (k c : ℕ) (x : ℕ × ℕ) → k ≡ c → Later (k + 1) 0 x → c < x.0
unfolding Later
later_gone k c x e (inl h) = omega arith
later_gone k c x e (inr h) = omega arith

order_turn : (k n c : ℕ) (l : List (ℕ × ℕ)) → Run (k + 1) 0 l → under c l ≡ from (start k n c) (length (under c l))
unfolding start from
order_turn k n c l R = go (eqb k c) refl
  where
    go : (b : Bool) → eqb k c ≡ b → under c l ≡ from (cond b n 0) (length (under c l))
    go true e = rw (under_none c l (λ x m. later_gone k c x (eqb-true _ _ e) (R.later x m)))
    go false e = rw (start_zero (k + 1) c) at (R.order c)

run_turn : (k n : ℕ) (l : List (ℕ × ℕ)) → Run (k + 1) 0 l → Run k n l
run_turn k n l R =
    record {
      later = λ x m. later_turn k n x (R.later x m);
      apart = R.apart;
      order = λ c. order_turn k n c l R;
    }

-- ---- a run

build_run : (k : ℕ) (s : Sender) (b : Built) (l : List (ℕ × ℕ)) → Builds s b → Run k b.next.next l
    → Run k s.next (cond (eqb b.answer 0) ((k, b.number) ∷ []) [] ++ l)
build_run k s b l (granted e n x) R = rw (e, n) (run_cons k s.next l (rw x at R))
build_run k s b l (kept e x) R = rw e (rw x at R)

turn_run : (k : ℕ) (s : Sender) (iv : List ℕ) (t : SenderStep) (l : List (ℕ × ℕ)) → Turns s iv t
    → Run (cond (eqb t.answer 0) (k + 1) k) t.next.next l → Run k s.next l
turn_run k s iv t l (granted e x) R = run_turn k s.next l (rw (e, x) at R)
turn_run k s iv t l (kept e x) R = rw (e, x) at R

run_of : (k : ℕ) (s : Sender) (cs : List Send) → Run k s.next (used_by sending k s cs)
unfolding used_by sending
run_of k s [] = run_nil k s.next
run_of k s (build app random out ∷ cs) =
    build_run k s _ _ (builds s (length app) (length random) (length out)) (run_of k (build_of s (length app) (length random) (length out)).next cs)
run_of k s (turn_key iv ∷ cs) = turn_run k s iv _ _ (turns s iv)
    (run_of (cond (eqb (change_sender s iv).answer 0) (k + 1) k) (change_sender s iv).next cs)
run_of k s (failed ∷ cs) = run_of k s cs

open_next : (s : Setting) (iv : List ℕ) → ((open_sender s iv).next.next ≡ 0) × ((open_sender s iv).next.count ≡ 0)
unfolding open_rows
open_next s iv =
    by_cases (λ (x : SenderStep). (x.next.next ≡ 0) × (x.next.count ≡ 0)) (eqb (first (open_rows s)) 0) _ _ (λ h. (refl, refl)) (λ h. (refl, refl))

-- the numbers used under each key count are 0, 1, 2 and on, in order
pub used_in_order : (s : Setting) (iv : List ℕ) (sends : List Send) (c : ℕ)
    → under c (used (open_sender s iv).next sends) ≡ from 0 (builds_under c (open_sender s iv).next sends)
used_in_order s iv sends c =
    let R = run_of 0 (open_sender s iv).next sends in
    rw ((open_next s iv).0, start_zero 0 c) at (R.order c)

-- no key count and number are used together twice
pub used_once : (s : Setting) (iv : List ℕ) (sends : List Send) → Distinct (used (open_sender s iv).next sends)
used_once s iv sends = (run_of 0 (open_sender s iv).next sends).apart

-- ---- the key count is the number of key changes

turn_count : {s : Sender} {iv : List ℕ} {t : SenderStep} → Turns s iv t → t.next.count ≡ s.count + cond (eqb t.answer 0) 1 0
turn_count (granted e x) = rw (e, x)
turn_count (kept e x) = rw (e, x) (omega arith)

build_count : {s : Sender} {b : Built} → Builds s b → b.next.count ≡ s.count
build_count (granted e n x) = rw x
build_count (kept e x) = rw x

count_after : (s : Sender) (cs : List Send) → (sender_after s cs).count ≡ s.count + turns_in s cs
unfolding sent_by turns_by sending
count_after s [] = omega arith
count_after s (build app random out ∷ cs) =
    let b = build_count (builds s (length app) (length random) (length out)) in
    let h = count_after (build_of s (length app) (length random) (length out)).next cs in
    omega arith
count_after s (turn_key iv ∷ cs) =
    let t = turn_count (turns s iv) in
    let h = count_after (change_sender s iv).next cs in
    omega arith
count_after s (failed ∷ cs) = count_after s cs

-- a sender's key count is the number of the key changes that it was granted
pub count_is_turns : (s : Setting) (iv : List ℕ) (sends : List Send)
    → (sender_after (open_sender s iv).next sends).count ≡ turns_in (open_sender s iv).next sends
count_is_turns s iv sends =
    let h = count_after (open_sender s iv).next sends in
    let z = (open_next s iv).1 in
    omega arith

-- ---- the next number is the number of builds under the key count

-- the run from key count k and number n on uses l, and leaves m as the next number under its last key count c
record Counts (k n c : ℕ) (l : List (ℕ × ℕ)) (m : ℕ) : Type 0 where
  counted : m ≡ start k n c + length (under c l)

counts_nil : (k n c : ℕ) → c ≡ k → Counts k n c [] n
unfolding start under
counts_nil k n c e = record { counted = rw (eq-eqb k c (sym e)) (omega arith) }

counts_cons : (k n c : ℕ) (l : List (ℕ × ℕ)) (m : ℕ) → Counts k (n + 1) c l m → Counts k n c ((k, n) ∷ l) m
unfolding under start
counts_cons k n c l m C = record { counted = go (eqb k c) C.counted }
  where
    go : (b : Bool) → m ≡ cond b (n + 1) 0 + length (under c l) → m ≡ cond b n 0 + length (cond b (n ∷ under c l) (under c l))
    go true e = omega arith
    go false e = e

counts_build : {k c m : ℕ} {s : Sender} {b : Built} {l : List (ℕ × ℕ)} → Builds s b → Counts k b.next.next c l m
    → Counts k s.next c (cond (eqb b.answer 0) ((k, b.number) ∷ []) [] ++ l) m
counts_build (granted e n x) C = rw (e, n) (counts_cons _ _ _ _ _ (rw x at C))
counts_build (kept e x) C = rw e (rw x at C)

-- after a key change the numbers before it do not count
counts_turn : (k n c : ℕ) (l : List (ℕ × ℕ)) (m : ℕ) → k < c → Counts (k + 1) 0 c l m → Counts k n c l m
unfolding start
counts_turn k n c l m h C =
    record { counted = rw (ne_eqb k c (omega arith)) (C.counted ∙ ap (λ (z : ℕ). z + length (under c l)) (start_zero (k + 1) c)) }

counts_turned : {k c m : ℕ} {s : Sender} {iv : List ℕ} {t : SenderStep} {l : List (ℕ × ℕ)} (T : ℕ) → Turns s iv t
    → c ≡ k + (T + cond (eqb t.answer 0) 1 0) → Counts (cond (eqb t.answer 0) (k + 1) k) t.next.next c l m → Counts k s.next c l m
counts_turned T (granted e x) q C = let q' = rw e at q in counts_turn _ _ _ _ _ (omega arith) (rw (e, x) at C)
counts_turned T (kept e x) q C = rw (e, x) at C

turned_count : (k T : ℕ) (b : Bool) → k + (T + cond b 1 0) ≡ cond b (k + 1) k + T
turned_count k T true = omega arith
turned_count k T false = omega arith

next_after : (k : ℕ) (s : Sender) (cs : List Send) (c : ℕ) → c ≡ k + turns_in s cs
    → Counts k s.next c (used_by sending k s cs) (sender_after s cs).next
unfolding sent_by turns_by used_by sending
next_after k s [] c e = counts_nil k s.next c (omega arith)
next_after k s (build app random out ∷ cs) c e =
    counts_build (builds s (length app) (length random) (length out)) (next_after k _ cs c e)
next_after k s (turn_key iv ∷ cs) c e =
    let t = change_sender s iv in
    let b = eqb t.answer 0 in
    counts_turned _ (turns s iv) e (next_after (cond b (k + 1) k) t.next cs c (e ∙ turned_count k (turns_in t.next cs) b))
next_after k s (failed ∷ cs) c e = next_after k s cs c e

-- the next number after a run
next_is_builds : (s : Setting) (iv : List ℕ) (before : List Send)
    → let x = sender_after (open_sender s iv).next before in
    x.next ≡ builds_under x.count (open_sender s iv).next before
next_is_builds s iv before =
    let c = (sender_after (open_sender s iv).next before).count in
    let C = next_after 0 (open_sender s iv).next before c (omega (arith, count_is_turns s iv before)) in
    let h = rw ((open_next s iv).0, start_zero 0 c) at C.counted in
    omega arith

numbered : {s : Sender} {b : Built} → Builds s b → b.answer ≡ 0 → b.number ≡ s.next
numbered (granted e n x) z = n
numbered (kept e x) z = absurd (true_not_false (eq-eqb _ 0 z) e)

-- the number of each build is the number of earlier builds of the run under the sender's key count
pub number_is_earlier_builds : (s : Setting) (iv : List ℕ) (before : List Send) (p q room : ℕ)
    → let x = sender_after (open_sender s iv).next before in
    (build_of x p q room).answer ≡ 0 → (build_of x p q room).number ≡ builds_under x.count (open_sender s iv).next before
number_is_earlier_builds s iv before p q room z =
    numbered (builds (sender_after (open_sender s iv).next before) p q room) z ∙ next_is_builds s iv before

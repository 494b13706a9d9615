-- Laws of tables of checks: joined, read by the names of their refusals, and bounded.
-- Assumes nothing.
use Prim.Native.Nat.{ℕ, ◌≤◌}
use mathlib.Core.Bool.{Bool, true, false, not, cond, ◌&&◌, ◌||◌}
use mathlib.Core.List.{List, [], ◌∷◌, ◌++◌}
use mathlib.Core.Path.{◌≡◌, refl}
use native.Mathlib.Omega.{arith}
use lib.Dec.{T, eqb, leb}
use borrow.Author.Tests.{leb-true, eq-eqb}
use Rattle.answers.specs.Refusal.{marks, authentic}
use Rattle.answers.specs.Table.{Check, first}
use Rattle.answers.proofs.Tests.{both_true, by_cases}

-- ---- a test on the refusals of a table

-- f holds for the number of every check
abbrev pub each : (ℕ → Bool) → List Check → Bool
each f [] = true
each f (t ∷ ts) = f t.1 && each f ts

-- no check has the number 0
abbrev pub numbered : List Check → Bool
numbered = each (λ k. not (eqb k 0))

-- no refusal of the table marks, and no check has the number 0
abbrev pub unmarking : List Check → Bool
unmarking = each (λ k. not (authentic k))

-- every refusal is at most k
abbrev pub within : ℕ → List Check → Bool
within k = each (λ n. leb n k)

-- ---- two tables joined

zero_step : (b : Bool) (n m : ℕ) → T (not (eqb n 0)) → cond b n m ≡ 0 → (b ≡ false) × (m ≡ 0)
zero_step true n m h e = absurd (rw (eq-eqb n 0 e) at h)
zero_step false n m h e = (refl, e)

-- where nothing is refused by both, nothing is by either
pub both_pass : (xs ys : List Check) → T (numbered xs) → first (xs ++ ys) ≡ 0 → (first xs ≡ 0) × (first ys ≡ 0)
both_pass [] ys h e = (refl, e)
both_pass (t ∷ ts) ys h e =
    let n = both_true (not (eqb t.1 0)) (numbered ts) h in
    let p = zero_step t.0 t.1 (first (ts ++ ys)) n.0 e in
    let q = both_pass ts ys n.1 p.1 in
    (rw p.0 q.0, q.1)

-- where no check of xs holds, those after it decide
pub first_past : (xs ys : List Check) → T (numbered xs) → first xs ≡ 0 → first (xs ++ ys) ≡ first ys
first_past [] ys h e = refl
first_past (t ∷ ts) ys h e =
    let n = both_true (not (eqb t.1 0)) (numbered ts) h in
    let p = zero_step t.0 t.1 (first ts) n.0 e in
    rw p.0 (first_past ts ys n.1 p.1)

stop_step : (b : Bool) (n m k : ℕ) → (cond b n m ≡ 0 → ⊥) → ((m ≡ 0 → ⊥) → k ≡ m) → cond b n k ≡ cond b n m
stop_step true n m k h q = refl
stop_step false n m k h q = q h

-- where a check of xs holds, those after it do not count
pub first_stop : (xs ys : List Check) → (first xs ≡ 0 → ⊥) → first (xs ++ ys) ≡ first xs
first_stop [] ys h = absurd (h refl)
first_stop (t ∷ ts) ys h = stop_step t.0 t.1 (first ts) (first (ts ++ ys)) h (first_stop ts ys)

-- ---- a row by the name of its refusal

-- the test of the check with the number k
abbrev pub test_of : ℕ → List Check → Bool
test_of k [] = false
test_of k (t ∷ ts) = cond (eqb t.1 k) t.0 (test_of k ts)

-- where nothing is refused, the test of every refusal fails
pub row_passed : (k : ℕ) (xs : List Check) → T (numbered xs) → first xs ≡ 0 → test_of k xs ≡ false
row_passed k [] h e = refl
row_passed k (t ∷ ts) h e =
    let n = both_true (not (eqb t.1 0)) (numbered ts) h in
    let p = zero_step t.0 t.1 (first ts) n.0 e in
    by_cases (λ (b : Bool). b ≡ false) (eqb t.1 k) t.0 (test_of k ts) (λ q. p.0) (λ q. row_passed k ts n.1 p.1)

-- ---- which refusals mark

auth_step : (b : Bool) (n m : ℕ) → T (not (authentic n)) → authentic (cond b n m) ≡ true → (b ≡ false) × (authentic m ≡ true)
auth_step true n m h e = absurd (rw e at h)
auth_step false n m h e = (refl, e)

-- an answer of an authentic record comes from what stands behind the checks that do not mark
pub past_unmarking : (xs ys : List Check) → T (unmarking xs) → authentic (first (xs ++ ys)) ≡ true
    → (first xs ≡ 0) × (authentic (first ys) ≡ true)
past_unmarking [] ys h e = (refl, e)
past_unmarking (t ∷ ts) ys h e =
    let n = both_true (not (authentic t.1)) (unmarking ts) h in
    let p = auth_step t.0 t.1 (first (ts ++ ys)) n.0 e in
    let q = past_unmarking ts ys n.1 p.1 in
    (rw p.0 q.0, q.1)

quiet : (k : ℕ) → T (not (authentic k)) → marks k ≡ false
unfolding authentic
quiet k h = go (eqb k 0) (marks k) h
  where
    go : (a b : Bool) → T (not (a || b)) → b ≡ false
    go true b h = absurd h
    go false true h = absurd h
    go false false h = refl

-- what such a table refuses is not marked
pub first_unmarking : (xs : List Check) → T (unmarking xs) → marks (first xs) ≡ false
unfolding marks
first_unmarking [] h = refl
first_unmarking (t ∷ ts) h =
    let n = both_true (not (authentic t.1)) (unmarking ts) h in
    by_cases (λ (k : ℕ). marks k ≡ false) t.0 t.1 (first ts) (λ e. quiet t.1 n.0) (λ e. first_unmarking ts n.1)

-- ---- the largest number

is_true : (b : Bool) → T b → b ≡ true
is_true true h = refl
is_true false h = absurd h

pub first_within : (k : ℕ) (xs : List Check) → T (within k xs) → first xs ≤ k
first_within k [] h = omega arith
first_within k (t ∷ ts) h =
    let n = both_true (leb t.1 k) (within k ts) h in
    by_cases (λ (m : ℕ). m ≤ k) t.0 t.1 (first ts) (λ e. leb-true t.1 k (is_true _ n.0)) (λ e. first_within k ts n.1)

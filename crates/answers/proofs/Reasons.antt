-- A table answers k exactly where k's reason holds and none before it does, and 0 exactly where none holds.
-- Assumes nothing.
use Prim.Native.Nat.{ℕ}
use mathlib.Core.Bool.{Bool, true, false, cond}
use mathlib.Core.List.{List, [], ◌∷◌, ◌++◌}
use mathlib.Core.Logic.{◌⊎◌, inl, inr}
use mathlib.Core.Path.{◌≡◌, refl, sym, ◌∙◌}
use Rattle.answers.specs.Table.{Check, first}
use Rattle.answers.specs.Reasons.{Reason, Answers, Decided, Tells, Told}

-- one row
pub told_row : {b : Bool} {p : Type 0} {k : ℕ} → Tells b p → Tells b p × (k ≡ k)
told_row t = (t, refl)

pub told_join : (ts us : List Check) (ps qs : List Reason) → Told ts ps → Told us qs → Told (ts ++ us) (ps ++ qs)
told_join [] us [] qs a b = b
told_join [] us (p ∷ ps) qs a b = absurd a
told_join (t ∷ ts) us [] qs a b = absurd a
told_join (t ∷ ts) us (p ∷ ps) qs a b = (a.0, told_join ts us ps qs a.1 b)

answers_step : (b : Bool) (n m k : ℕ) (p A : Type 0) → Tells b p → (m ≡ k → A) → cond b n m ≡ k → (p × (k ≡ n)) ⊎ ((p → ⊥) × A)
answers_step true n m k p A t f e = inl (t.holds refl, sym e)
answers_step false n m k p A t f e = inr (t.fails refl, f e)

answers : (ts : List Check) (ps : List Reason) → Told ts ps → (k : ℕ) → first ts ≡ k → Answers k ps
answers [] [] a k e = sym e
answers [] (p ∷ ps) a k e = absurd a
answers (t ∷ ts) [] a k e = absurd a
answers (t ∷ ts) (p ∷ ps) a k e =
    answers_step t.0 p.why (first ts) k p.when (Answers k ps) a.0.0 (answers ts ps a.1 k) (rw a.0.1 at e)

answered_step : (b : Bool) (n m k : ℕ) (p A : Type 0) → Tells b p → (A → m ≡ k) → (p × (k ≡ n)) ⊎ ((p → ⊥) × A) → cond b n m ≡ k
answered_step true n m k p A t f (inl h) = sym h.1
answered_step true n m k p A t f (inr h) = absurd (h.0 (t.holds refl))
answered_step false n m k p A t f (inl h) = absurd (t.fails refl h.0)
answered_step false n m k p A t f (inr h) = f h.1

answered : (ts : List Check) (ps : List Reason) → Told ts ps → (k : ℕ) → Answers k ps → first ts ≡ k
answered [] [] a k h = sym h
answered [] (p ∷ ps) a k h = absurd a
answered (t ∷ ts) [] a k h = absurd a
answered (t ∷ ts) (p ∷ ps) a k h =
    rw a.0.1 (answered_step t.0 p.why (first ts) k p.when (Answers k ps) a.0.0 (answered ts ps a.1 k) h)

-- a call whose answer is its table's is decided by the reasons that the table tells
pub decided : (ts : List Check) (ps : List Reason) → Told ts ps → (a : ℕ) → a ≡ first ts → Decided a ps
decided ts ps t a e k = (λ h. answers ts ps t k (sym e ∙ h), λ h. e ∙ answered ts ps t k h)

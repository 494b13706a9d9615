-- Two answers that a contract allows are one.
-- Assumes nothing.
use mathlib.Core.Path.{◌≡◌, sym, ◌∙◌}

-- `Post` is the contract of a function: of its lifetimes, its arguments, its answer and the lent buffers at exit. `see` is what is
-- compared: the answer, or what stands behind a reference
abbrev pub OneAnswer : {K : Type 0} {A R S : K → Type 0} {B : Type 0}
    → ((κ : K) → A κ → R κ → S κ → Type 0) → ((κ : K) → R κ → S κ → B) → Type 0
OneAnswer {K} {A} {R} {S} Post see =
    (κ : K) (a : A κ) (x y : R κ) (s t : S κ) → Post κ a x s → Post κ a y t → see κ x s ≡ see κ y t

-- both are what the definition says
pub one : {A : Type 0} {x y d : A} → x ≡ d → y ≡ d → x ≡ y
one p q = p ∙ sym q

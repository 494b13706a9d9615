-- Small laws of tests, and which propositions the tests of the tables tell.
-- Assumes nothing.
use Prim.Native.Nat.{ℕ, ◌≤◌, ◌<◌}
use mathlib.Core.Bool.{Bool, true, false, not, cond, ◌&&◌, ◌||◌, false≢true}
use mathlib.Core.Logic.{◌⊎◌, inl, inr}
use mathlib.Core.Path.{◌≡◌, refl, sym, ◌∙◌}
use lib.Dec.{T, ltb, leb, eqb}
use borrow.Author.Tests.{not-true, not-false, ltb-true, lt-ltb, leb-true, le-leb, eqb-true, eq-eqb}
use Rattle.answers.specs.Table.{differ}
use Rattle.answers.specs.Reasons.{Tells}

pub true_not_false : {b : Bool} → b ≡ true → b ≡ false → ⊥
true_not_false p q = false≢true (sym q ∙ p)

pub both_true : (a b : Bool) → T (a && b) → T a × T b
both_true true b h = (tt, h)
both_true false b h = absurd h

pub or_neither : (a b : Bool) → (a || b) ≡ false → (a ≡ false) × (b ≡ false)
or_neither true b e = absurd (true_not_false refl e)
or_neither false b e = (refl, e)

pub or_true_left : (a b : Bool) → a ≡ true → (a || b) ≡ true
or_true_left true b h = refl
or_true_left false b h = absurd (true_not_false h refl)

pub or_more : (a b : Bool) → b ≡ true → (a || b) ≡ true
or_more true b h = refl
or_more false b h = h

-- a property of both branches is one of the whole
pub by_cases : {A : Type 0} (P : A → Type 0) (b : Bool) (x y : A) → (b ≡ true → P x) → (b ≡ false → P y) → P (cond b x y)
by_cases P true x y f g = f refl
by_cases P false x y f g = g refl

-- ---- what a test tells

pub tells_true : (b : Bool) → Tells b (b ≡ true)
tells_true b = record { holds = λ e. e; fails = λ e p. true_not_false p e }

pub tells_false : (b : Bool) → Tells (not b) (b ≡ false)
tells_false b = record { holds = not-true b; fails = λ e p. true_not_false (not-false b e) p }

pub tells_lt : (a b : ℕ) → Tells (ltb a b) (a < b)
tells_lt a b = record { holds = ltb-true a b; fails = λ e p. true_not_false (lt-ltb a b p) e }

pub tells_le : (a b : ℕ) → Tells (leb a b) (a ≤ b)
tells_le a b = record { holds = leb-true a b; fails = λ e p. true_not_false (le-leb a b p) e }

pub tells_eq : (a b : ℕ) → Tells (eqb a b) (a ≡ b)
tells_eq a b = record { holds = eqb-true a b; fails = λ e p. true_not_false (eq-eqb a b p) e }

not_step : (b : Bool) {p : Type 0} → Tells b p → Tells (not b) (p → ⊥)
not_step true t = record { holds = λ e. absurd (true_not_false e refl); fails = λ e q. q (t.holds refl) }
not_step false t = record { holds = λ e. t.fails refl; fails = λ e q. true_not_false refl e }

pub tells_not : {b : Bool} {p : Type 0} → Tells b p → Tells (not b) (p → ⊥)
tells_not {b} t = not_step b t

neither : {p q : Type 0} → (p → ⊥) → (q → ⊥) → p ⊎ q → ⊥
neither f g (inl x) = f x
neither f g (inr y) = g y

or_step : (a b : Bool) {p q : Type 0} → Tells a p → Tells b q → Tells (a || b) (p ⊎ q)
or_step true b t u = record { holds = λ e. inl (t.holds refl); fails = λ e. absurd (true_not_false refl e) }
or_step false b t u = record { holds = λ e. inr (u.holds e); fails = λ e. neither (t.fails refl) (u.fails e) }

pub tells_or : {a b : Bool} {p q : Type 0} → Tells a p → Tells b q → Tells (a || b) (p ⊎ q)
tells_or {a} {b} t u = or_step a b t u

and_step : (a b : Bool) {p q : Type 0} → Tells a p → Tells b q → Tells (a && b) (p × q)
and_step true b t u = record { holds = λ e. (t.holds refl, u.holds e); fails = λ e x. u.fails e x.1 }
and_step false b t u = record { holds = λ e. absurd (true_not_false e refl); fails = λ e x. t.fails refl x.0 }

pub tells_and : {a b : Bool} {p q : Type 0} → Tells a p → Tells b q → Tells (a && b) (p × q)
tells_and {a} {b} t u = and_step a b t u

pub tells_differ : (a b : ℕ) → Tells (differ a b) (a ≡ b → ⊥)
tells_differ a b = tells_not (tells_eq a b)

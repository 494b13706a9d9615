-- Laws of tests: what a test tells.
-- Assumes nothing.
use mathlib.Core.Path.{◌≡◌, refl}
use mathlib.Core.Bool.{Bool, true, false}
use Rattle.answers.specs.Reasons.{Tells}
use Rattle.answers.proofs.Tests.{true_not_false}

-- a test that tells p tells what comes to the same
pub tells_as : {b : Bool} {p q : Type 0} → (p → q) → (q → p) → Tells b p → Tells b q
tells_as f g t = record { holds = λ e. f (t.holds e); fails = λ e x. t.fails e (g x) }

-- and one that is true exactly where q holds tells q
pub tells_both : {b : Bool} {p : Type 0} → (b ≡ true → p) → (p → b ≡ true) → Tells b p
tells_both f g = record { holds = f; fails = λ e h. true_not_false (g h) e }

-- a test that tells what holds
pub told_true : {b : Bool} {p : Type 0} → Tells b p → p → b ≡ true
told_true {b} t h = go b refl
  where
    go : (c : Bool) → b ≡ c → b ≡ true
    go true e = e
    go false e = absurd (t.fails e h)

pub told_false : {b : Bool} {p : Type 0} → Tells b p → (p → ⊥) → b ≡ false
told_false {b} t h = go b refl
  where
    go : (c : Bool) → b ≡ c → b ≡ false
    go true e = absurd (h (t.holds e))
    go false e = e

-- Why a call is refused, in words: each reason is a condition, as a proposition, and the number of its refusal.
-- Assumes nothing.
use Rattle.std.specs.Prelude.{ℕ, Bool, true, false, List, [], ◌∷◌, ◌⊎◌, ◌↔◌, ◌≡◌}
use Rattle.answers.specs.Table.{Check}

pub record Reason : Type 1 where
  pub when : Type 0
  pub why : ℕ

infix 68 ◌refuses◌
abbrev pub ◌refuses◌ : Type 0 → ℕ → Reason
p refuses k = record { when = p; why = k }

-- k is the number of the first reason that holds, and 0 exactly where none holds
abbrev pub Answers : ℕ → List Reason → Type 0
Answers k [] = k ≡ 0
Answers k (p ∷ ps) = (p.when × (k ≡ p.why)) ⊎ ((p.when → ⊥) × Answers k ps)

-- a call's answer is k exactly where k's reason holds and none before it does, and 0 exactly where none holds
abbrev pub Decided : ℕ → List Reason → Type 0
Decided answer reasons = (k : ℕ) → (answer ≡ k) ↔ Answers k reasons

-- the test b holds exactly where p does
pub record Tells (b : Bool) (p : Type 0) : Type 0 where
  pub holds : b ≡ true → p
  pub fails : b ≡ false → p → ⊥

-- each test of a table tells its reason
abbrev pub Told : List Check → List Reason → Type 0
Told [] [] = Unit {0}
Told [] (p ∷ ps) = ⊥
Told (t ∷ ts) [] = ⊥
Told (t ∷ ts) (p ∷ ps) = (Tells t.0 p.when × (t.1 ≡ p.why)) × Told ts ps

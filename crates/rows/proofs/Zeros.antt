-- A part is all zeros where its words are, cut to what its fields hold.
-- Assumes nothing.
use Prim.Native.Nat.{ℕ, ◌/◌, ◌%◌, ◌<◌, ◌^◌}
use mathlib.Core.Bool.{Bool, true, false, ◌&&◌}
use mathlib.Core.Path.{◌≡◌, refl, sym, ◌∙◌}
use native.Mathlib.Omega.{arith}
use lib.Dec.{eqb}
use Rattle.answers.specs.Reasons.{Tells}
use Rattle.answers.proofs.Tests.{true_not_false, tells_eq, tells_and}
use Rattle.octets.specs.Fields.{blank}
use Rattle.record.specs.Setting.{same_setting, is_zero_setting}
use Rattle.rows.specs.Part.{setting_of, iv_of}

-- two tests that tell the same are one
tells_same : {a b : Bool} {p q : Type 0} → Tells a p → Tells b q → (p → q) → (q → p) → a ≡ b
tells_same {a} {b} s t f g = go a b refl refl
  where
    go : (x y : Bool) → a ≡ x → b ≡ y → a ≡ b
    go true true d e = d ∙ sym e
    go true false d e = absurd (t.fails e (f (s.holds d)))
    go false true d e = absurd (s.fails d (g (t.holds e)))
    go false false d e = d ∙ sym e

tells_nothing : Tells true (Unit {0})
tells_nothing = record { holds = λ e. tt; fails = λ e p. true_not_false refl e }

pub zero_setting_test : (h s l : ℕ) → ((eqb (h % 281474976710656) 0 && eqb (s % 4294967296) 0) && eqb l 0) ≡ is_zero_setting (setting_of h s l)
unfolding is_zero_setting same_setting
zero_setting_test h s l =
    tells_same (tells_and (tells_and (tells_eq (h % 281474976710656) 0) (tells_eq (s % 4294967296) 0)) (tells_eq l 0))
    (tells_and (tells_and (tells_and (tells_and (tells_and (tells_and (tells_eq (h % 256) 0) (tells_eq (h / 256 % 256) 0)) (tells_eq (h / 256 / 256 % 256) 0)) (tells_eq (h / 256 / 256 / 256 % 256) 0)) (tells_eq (h / 4294967296 % 65536) 0)) (tells_eq (s % 4294967296) 0)) (tells_eq l 0))
    (λ p. ((((((omega (arith, p.0.0), omega (arith, p.0.0)), omega (arith, p.0.0)), omega (arith, p.0.0)), omega (arith, p.0.0)), p.0.1), p.1))
    (λ q. ((omega (arith, q.0.0.0.0.0.0, q.0.0.0.0.0.1, q.0.0.0.0.1, q.0.0.0.1, q.0.0.1), q.0.1), q.1))

pub zero_iv_test : (h t : ℕ) → h < 2 ^ 64 → (eqb h 0 && eqb (t % 4294967296) 0) ≡ blank 12 (iv_of h t)
unfolding iv_of blank
zero_iv_test h t f =
    tells_same (tells_and (tells_eq h 0) (tells_eq (t % 4294967296) 0))
    (tells_and (tells_and (tells_and (tells_and (tells_and (tells_and (tells_and (tells_and (tells_and (tells_and (tells_and (tells_and tells_nothing (tells_eq (h % 256) 0)) (tells_eq (h / 256 % 256) 0)) (tells_eq (h / 256 / 256 % 256) 0)) (tells_eq (h / 256 / 256 / 256 % 256) 0)) (tells_eq (h / 256 / 256 / 256 / 256 % 256) 0)) (tells_eq (h / 256 / 256 / 256 / 256 / 256 % 256) 0)) (tells_eq (h / 256 / 256 / 256 / 256 / 256 / 256 % 256) 0)) (tells_eq (h / 256 / 256 / 256 / 256 / 256 / 256 / 256 % 256) 0)) (tells_eq (t % 256) 0)) (tells_eq (t / 256 % 256) 0)) (tells_eq (t / 256 / 256 % 256) 0)) (tells_eq (t / 256 / 256 / 256 % 256) 0))
    (λ p. ((((((((((((tt, omega (arith, p.0)), omega (arith, p.0)), omega (arith, p.0)), omega (arith, p.0)), omega (arith, p.0)), omega (arith, p.0)), omega (arith, p.0)), omega (arith, p.0)), omega (arith, p.1)), omega (arith, p.1)), omega (arith, p.1)), omega (arith, p.1)))
    (λ q. (omega (arith, f, q.0.0.0.0.0.0.0.0.0.0.0.1, q.0.0.0.0.0.0.0.0.0.0.1, q.0.0.0.0.0.0.0.0.0.1, q.0.0.0.0.0.0.0.0.1, q.0.0.0.0.0.0.0.1, q.0.0.0.0.0.0.1, q.0.0.0.0.0.1, q.0.0.0.0.1), omega (arith, q.0.0.0.1, q.0.0.1, q.0.1, q.1)))

-- Answers that never occur: a refusal whose tests all fail.
-- Assumes nothing.
use Prim.Native.Nat.{ℕ}
use mathlib.Core.Path.{◌≡◌, refl, sym}
use mathlib.Core.Logic.{◌≢◌}
use mathlib.Core.Bool.{Bool, true, false, cond, ◌||◌}
use mathlib.Core.List.{List, [], ◌∷◌}
use lib.Dec.{eqb}
use borrow.Author.Tests.{eqb-false}
use Rattle.answers.proofs.Tests.{true_not_false, or_neither}
use Rattle.answers.specs.Table.{first, Check}
use Rattle.channel.proofs.Outcome.{code_of}
use Rattle.channel.specs.Call.{Call}
use Rattle.channel.specs.Receiver.{look, answer_to}
use Rattle.channel.specs.Rules.{rows}
use Rattle.channel.specs.declared.receiver.Receiver.{Receiver}

-- the test of a check with the number k holds
abbrev pub tested : ℕ → List Check → Bool
tested k [] = false
tested k (t ∷ ts) = cond (eqb t.1 k) (t.0 || tested k ts) (tested k ts)

passed_step : (k n m : ℕ) (a b c : Bool) → eqb n k ≡ b → cond b (a || c) c ≡ false → (c ≡ false → m ≢ k) → cond a n m ≢ k
passed_step k n m true true c e h f = absurd (true_not_false refl (or_neither true c h).0)
passed_step k n m false true c e h f = f h
passed_step k n m true false c e h f = eqb-false n k e
passed_step k n m false false c e h f = f h

pub never : (k : ℕ) → k ≢ 0 → (xs : List Check) → tested k xs ≡ false → first xs ≢ k
never k z [] h = λ e. z (sym e)
never k z (t ∷ ts) h = passed_step k t.1 (first ts) t.0 (eqb t.1 k) (tested k ts) refl h (never k z ts)

pub never_code : (x : Receiver) (c : Call) (k : ℕ) → k ≢ 0 → tested k (rows (look x) c) ≡ false → (answer_to x c).code ≢ k
never_code x c k z h = rw (code_of x c) (never k z (rows (look x) c) h)

-- Page 01's rules for one key in words: why a number is refused, and which windows marking never reaches.
-- Assumes nothing.
use Rattle.std.specs.Prelude.{ℕ, ◌-◌, ◌≤◌, ◌<◌, min, Bool, true, false, List, [], ◌∷◌, ◌⊎◌, ◌≡◌}
use Rattle.answers.specs.Refusal as Refusal
use Rattle.answers.specs.Reasons.{Reason, ◌refuses◌}
use Rattle.numbers.specs.Word.{bit, word_of}
use Rattle.numbers.specs.Contract.{width_of}
use Rattle.numbers.specs.declared.window.Rule.{Rule}
use Rattle.numbers.specs.declared.window.Window.{Window}

-- why the number n is refused, in page 01's order. E - n is 0 here where page 01's is negative, and neither is above the width then.
abbrev pub number_reasons : ℕ → ℕ → ℕ → (ℕ → Bool) → ℕ → List Reason
number_reasons w l e seen n =
    (l ≤ n) refuses Refusal.spent
    ∷ (w < e - n) refuses Refusal.old
    ∷ (seen n ≡ true) refuses Refusal.repeat
    ∷ []

-- a window bit for a number below 0 or beyond the width: bit i stands for E - 1 - i
abbrev pub StrayBit : Rule → Window → Type 0
StrayBit r s = (i : ℕ) × (min (width_of r) s.next ≤ i) × (bit (word_of s.marks) i ≡ true)

-- E above the limit, such a bit, or E > 0 with bit 0 clear
abbrev pub Unsound : Rule → Window → Type 0
Unsound r s = (r.limit < s.next) ⊎ StrayBit r s ⊎ ((0 < s.next) × (bit (word_of s.marks) 0 ≡ false))

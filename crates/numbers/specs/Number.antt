-- Page 01, 'Numbers', on plain numbers and asked of any memory. `w` is the window's width, `l` the record limit, `e` one more than the
-- highest number marked (0 where none is), and `seen` says which numbers are marked.
-- Assumes nothing.
use Rattle.std.specs.Prelude.{ℕ, zero, suc, ◌+◌, ◌-◌, ◌%◌, min, Bool, not, cond, List, [], ◌∷◌, leb, ltb}
use Rattle.answers.specs.Refusal as Refusal
use Rattle.answers.specs.Table.{Check}

-- the whole number from e - 32768 to e + 32767 with these low 16 bits, plus 65536: so it is not negative
unfoldable pub whole : ℕ → ℕ → ℕ
whole e low = e + 32768 + (low + 98304 - e % 65536) % 65536

-- the record's number: that whole number, or 65536 more where it is negative
unfoldable pub nearest : ℕ → ℕ → ℕ
nearest e low = cond (leb 65536 (whole e low)) (whole e low - 65536) (whole e low)

-- what refuses the number n: Spent, Old, Repeat
unfoldable pub number_rows : ℕ → ℕ → ℕ → (ℕ → Bool) → ℕ → List Check
number_rows w l e seen n =
    (leb l n, Refusal.spent)
    ∷ (ltb w (e - n), Refusal.old)
    ∷ (seen n, Refusal.repeat)
    ∷ []

-- how many i below k pass the test
unfoldable pub count : (ℕ → Bool) → ℕ → ℕ
count p zero = 0
count p (suc k) = count p k + cond (p k) 1 0

-- how many of the last min w e numbers below e are unmarked
unfoldable pub gap_count : ℕ → ℕ → (ℕ → Bool) → ℕ
gap_count w e seen = count (λ (i : ℕ). not (seen (e - 1 - i))) (min w e)

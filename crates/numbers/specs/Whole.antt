-- Which whole number is meant: what the definition of `nearest` is held against. `negsuc k` is -(k + 1).
-- Assumes nothing.
use Rattle.std.specs.Prelude.{ℕ, ◌+◌, ◌-◌, ◌%◌, ◌≤◌, ◌⊎◌, ℤ, pos, negsuc, ◌+ℤ◌, ◌-ℤ◌, ◌≤ℤ◌}

-- z lies from e - 32768 to e + 32767
pub record Near (e : ℕ) (z : ℤ) : Type 0 where
  pub least : (pos e -ℤ pos 32768) ≤ℤ z
  pub most : z ≤ℤ (pos e +ℤ pos 32767)

-- the low 16 bits
unfoldable pub low16 : ℤ → ℕ
low16 (pos n) = n % 65536
low16 (negsuc k) = 65535 - k % 65536

-- a negative number is raised by 65536
unfoldable pub raised : ℤ → ℕ
raised (pos n) = n
raised (negsuc k) = 65536 - (k + 1)

-- a record with the number n is taken for n where e is one more than the highest number marked
abbrev pub Reached : ℕ → ℕ → Type 0
Reached e n = (e ≤ n + 32768) × ((n ≤ e + 32767) ⊎ (n ≤ 65535))

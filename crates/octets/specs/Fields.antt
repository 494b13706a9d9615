-- Numbers and the bytes that they are written with. A missing byte is 0.
-- Assumes nothing.
use Rattle.std.specs.Prelude.{ℕ, zero, suc, ◌+◌, ◌*◌, ◌/◌, ◌%◌, Bool, true, ◌&&◌, List, [], ◌∷◌, ◌++◌, eqb, get_or}

-- k bytes of a number, little-endian
abbrev pub little : ℕ → ℕ → List ℕ
little zero n = []
little (suc k) n = n % 256 ∷ little k (n / 256)

-- k bytes of a number, big-endian
abbrev pub big : ℕ → ℕ → List ℕ
big zero n = []
big (suc k) n = big k (n / 256) ++ (n % 256 ∷ [])

-- the number in the k bytes of s from at, little-endian
unfoldable pub field : List ℕ → ℕ → ℕ → ℕ
field s at zero = 0
field s at (suc k) = get_or s at 0 + 256 * field s (at + 1) k

-- the number in the k bytes of s from at, big-endian
unfoldable pub big_field : List ℕ → ℕ → ℕ → ℕ
big_field s at zero = 0
big_field s at (suc k) = 256 * big_field s at k + get_or s (at + k) 0

-- the first n bytes are 0
unfoldable pub blank : ℕ → List ℕ → Bool
blank zero s = true
blank (suc n) s = blank n s && eqb (get_or s n 0) 0

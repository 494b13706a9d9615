-- The window word: its bits, and the number that the declared `Marks` makes. What it is made of is said here only.
-- Assumes nothing.
use Rattle.std.specs.Prelude.{ℕ, zero, suc, ◌+◌, ◌*◌, ◌/◌, ◌%◌, ◌^◌, Bool, List, [], ◌∷◌, eqb}
use Rattle.std.specs.Int.Bits.{bit_or}
use Rattle.numbers.specs.declared.marks.Marks.{Marks}

-- whether bit i of m is set
unfoldable pub bit : ℕ → ℕ → Bool
bit m i = eqb (m / 2 ^ i % 2) 1

-- m with bit i set
unfoldable pub set_bit : ℕ → ℕ → ℕ
set_bit m i = bit_or m (2 ^ i)

-- how many bits it has
abbrev pub most : ℕ
most = 256

-- the number that words of b bits make, the lowest first
unfoldable pub joined : ℕ → List ℕ → ℕ
joined b [] = 0
joined b (x ∷ xs) = joined b xs * 2 ^ b + x

-- the n lowest words of a number, of b bits each
unfoldable pub split : ℕ → ℕ → ℕ → List ℕ
split b zero m = []
split b (suc n) m = m % 2 ^ b ∷ split b n (m / 2 ^ b)

-- the number of a word
unfoldable pub word_of : Marks → ℕ
word_of m = joined 64 m.words

-- the word of a number
unfoldable pub marks_of : ℕ → Marks
marks_of m = record { words = split 64 4 m }

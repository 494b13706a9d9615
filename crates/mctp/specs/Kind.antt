-- Message types, and the byte that holds one: the top bit is E-IC, the low seven bits are the type.
-- Use the numbers by `use Rattle.mctp.specs.Kind as Kind`: `Kind.secured`.
-- Assumes nothing.
use Rattle.std.specs.Prelude.{ℕ, ◌+◌, ◌/◌, ◌%◌, Bool, cond, eqb}

abbrev pub secured : ℕ
secured = 6

-- type 6 inside is barred
abbrev pub barred : ℕ
barred = secured

abbrev pub largest : ℕ
largest = 127

-- the top bit
abbrev pub integrity_bit : ℕ
integrity_bit = 128

-- the byte of the bit and a type
unfoldable pub byte_of : Bool → ℕ → ℕ
byte_of integrity kind = cond integrity (integrity_bit + kind) kind

-- the top bit of a byte
unfoldable pub integrity_of : ℕ → Bool
integrity_of byte = eqb (byte / integrity_bit) 1

-- the low seven bits
unfoldable pub kind_of : ℕ → ℕ
kind_of byte = byte % integrity_bit

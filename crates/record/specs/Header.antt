-- Page 01, 'Record on the wire': the fields of the header, as they are read and as they are written.
-- Assumes nothing.
use Rattle.std.specs.Prelude.{ℕ, true, false, cond, ◌≡◌, List, [], ◌++◌}
use Rattle.octets.specs.Fields.{field, little}
use Rattle.numbers.specs.Number.{nearest}
use Rattle.numbers.specs.Whole.{Reached}
use Rattle.record.specs.declared.setting.Setting.{Setting}
use Rattle.record.specs.Setting.{has_partial}

-- offset 0, 4 bytes
unfoldable pub session_of : Setting → List ℕ → ℕ
session_of s r = field r 0 4

-- offset 4, 2 bytes, where the profile has a partial number: the low 16 bits of the number
unfoldable pub partial_of : Setting → List ℕ → ℕ
partial_of s r = field r 4 2

-- Length stands behind the partial number, or where that would be
unfoldable pub length_at : Setting → ℕ
length_at s = cond (has_partial s) 6 4

-- 2 bytes there: how many bytes follow it
unfoldable pub length_of : Setting → List ℕ → ℕ
length_of s r = field r (length_at s) 2

-- the partial number of a record with this number
unfoldable pub partial_for : Setting → ℕ → List ℕ
partial_for s number = cond (has_partial s) (little 2 number) []

-- the header of the record with this number and this Length
unfoldable pub head_of : Setting → ℕ → ℕ → List ℕ
head_of s number len = little 4 s.session ++ partial_for s number ++ little 2 len

-- the number of a record for a key whose highest marked number plus 1 is e: without a partial number it is always e
unfoldable pub number_of : Setting → ℕ → List ℕ → ℕ
number_of s e r = cond (has_partial s) (nearest e (partial_of s r)) e

-- a record with the number n is taken for n
abbrev pub Found : Setting → ℕ → ℕ → Type 0
Found s e n = (has_partial s ≡ true → Reached e n) × (has_partial s ≡ false → e ≡ n)

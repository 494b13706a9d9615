-- The view of a record's data.
-- Assumes nothing.
use Rattle.std.specs.Prelude.{ℕ, cond, List, [], eqb}
use Rattle.octets.specs.Parts.{part}

-- a part of the record in mode 0, of the plaintext buffer in mode 1, and nothing for another mode or where it does not fit
unfoldable pub view_of : ℕ → ℕ → ℕ → List ℕ → List ℕ → List ℕ
view_of mode place len r plain = cond (eqb mode 0) (part r place len) (cond (eqb mode 1) (part plain place len) [])

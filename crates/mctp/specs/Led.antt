-- Writing bytes at the start of a buffer, and handing back all behind a first byte.
-- Assumes nothing.
use Rattle.std.specs.Prelude.{ℕ, List, [], ◌∷◌, Result, ltb, length, drop, get_or}
use Rattle.answers.specs.Refusal as Refusal
use Rattle.answers.specs.Answer.{code_of, or_none}
use Rattle.answers.specs.declared.refusal.Refusal.{Refusal}
use Rattle.answers.specs.Table.{Check, first, given}
use Rattle.octets.specs.Parts.{over}
use Rattle.mctp.specs.declared.ffi.Wrote.{Wrote}

abbrev pub none_wrote : ℕ → Wrote
none_wrote why = record { answer = why; length = 0 }

-- what a result is, as numbers
abbrev pub as_wrote : Result ℕ Refusal → Wrote
as_wrote r = record { answer = code_of r; length = or_none 0 r }

-- the buffer is shorter than the total
unfoldable pub room_rows : List ℕ → List ℕ → List Check
room_rows bytes out = (ltb (length out) (length bytes), Refusal.room) ∷ []

-- the answer, and the buffer at exit: the bytes at its start, or all as it was on a refusal
unfoldable pub writes : List Check → List ℕ → List ℕ → Wrote × List ℕ
writes rows bytes out =
    given (first rows) (record { answer = 0; length = length bytes }, over out 0 bytes) (λ why. (none_wrote why, out))

-- the first byte
abbrev pub lead : List ℕ → ℕ
lead bytes = get_or bytes 0 0

-- all behind the first byte, or nothing on a refusal
unfoldable pub behind : ℕ → List ℕ → List ℕ
behind why bytes = given why (drop 1 bytes) (λ k. [])

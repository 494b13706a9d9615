-- Page 01's table 'On either side of each line', rows p1 to p10: E, the low 16 bits, the number before the window check, and the answer
-- with its number.
-- Assumes nothing.
use Rattle.std.specs.Prelude.{ℕ, ◌-◌, ◌^◌, cond, List, [], ◌∷◌, eqb}
use Rattle.answers.specs.Refusal as Refusal
use Rattle.numbers.specs.Number.{nearest}
use Rattle.numbers.specs.Contract.{Placed, window_of, placed}
use Rattle.numbers.specs.declared.window.Rule.{Rule}

-- meant is the number before the window check
pub record Row : Type 0 where
  pub next : ℕ
  pub low : ℕ
  pub meant : ℕ
  pub answer : ℕ
  pub number : ℕ

abbrev row : ℕ → ℕ → ℕ → ℕ → ℕ → Row
row e low n a k = record { next = e; low = low; meant = n; answer = a; number = k }

-- a row whose number is taken, and one whose number is refused
abbrev taken : ℕ → ℕ → ℕ → Row
taken e low n = row e low n 0 n

abbrev refused : ℕ → ℕ → ℕ → ℕ → Row
refused e low n why = row e low n why 0

-- the word of a row's window: where something was marked, only E - 1
abbrev pub row_word : Row → ℕ
row_word r = cond (eqb r.next 0) 0 1

-- page 01's width, and the largest limit
abbrev pub row_rule : Rule
row_rule = record { width = 64; limit = 2 ^ 64 - 1 }

-- a row with what the definitions answer
abbrev pub answered_row : Row → Placed → Row
answered_row r p = row r.next r.low (nearest r.next r.low) p.answer p.number

-- what the definitions give for a row, as a row
unfoldable pub worked : Row → Row
worked r = answered_row r (placed row_rule (window_of r.next (row_word r)) r.low)

-- rows p1 to p10
unfoldable pub rows : List Row
rows =
    taken 0 0 0
    ∷ taken 0 65535 65535
    ∷ refused 65536 65535 65535 Refusal.repeat
    ∷ refused 65536 32768 32768 Refusal.old
    ∷ taken 65536 32767 98303
    ∷ taken 40000 0 65536
    ∷ refused (2 ^ 64 - 1) 0 (2 ^ 64) Refusal.spent
    ∷ refused (2 ^ 64 - 1) 65534 (2 ^ 64 - 2) Refusal.repeat
    ∷ taken 100 36 36
    ∷ refused 100 35 35 Refusal.old
    ∷ []

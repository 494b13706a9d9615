-- The number step as RFC 9147, 4.2.2, has it: of the numbers on either side of e with the record's low 16 bits the nearer one is meant.
-- `e` is one more than the highest number marked, 0 where none is.
-- Assumes nothing.
use Rattle.std.specs.Prelude.{ℕ, ◌+◌, ◌-◌, ◌%◌, cond, ◌&&◌, leb}

-- how far above e the candidate on the upper side lies: 0 where e itself has these low bits
unfoldable pub up : ℕ → ℕ → ℕ
up e low = (low + 65536 - e % 65536) % 65536

-- how far below e the candidate on the lower side lies
unfoldable pub down : ℕ → ℕ → ℕ
down e low = 65536 - up e low

-- the nearer candidate, on a tie the lower, and never a negative one
unfoldable pub nearer : ℕ → ℕ → ℕ
nearer e low = cond (leb (down e low) (up e low) && leb (down e low) e) (e - down e low) (e + up e low)

-- how far apart two numbers are
unfoldable pub distance : ℕ → ℕ → ℕ
distance a b = (a - b) + (b - a)

-- The window on plain numbers: `m` is its word, and bit i of m is set where e - 1 - i is marked; `w`, `l` and `e` as in `Number`.
-- Assumes nothing.
use Rattle.std.specs.Prelude.{ℕ, ◌+◌, ◌-◌, ◌*◌, ◌%◌, ◌^◌, min, max, Bool, cond, ◌&&◌, ◌||◌, leb, ltb, eqb}
use Rattle.answers.specs.Table.{first}
use Rattle.numbers.specs.Number.{number_rows, gap_count}
use Rattle.numbers.specs.Word.{bit, set_bit}

-- whether n is marked
unfoldable pub marked : ℕ → ℕ → ℕ → Bool
marked e m n = ltb n e && bit m (e - 1 - n)

-- 0 where n may be taken, else the number of the refusal
unfoldable pub verdict : ℕ → ℕ → ℕ → ℕ → ℕ → ℕ
verdict w l e m n = first (number_rows w l e (marked e m) n)

-- e after n is marked. A number at the limit or past the window's width changes nothing.
unfoldable pub mark_next : ℕ → ℕ → ℕ → ℕ
mark_next l e n = cond (leb l n) e (max e (n + 1))

-- the word after n is marked
unfoldable pub mark_word : ℕ → ℕ → ℕ → ℕ → ℕ → ℕ
mark_word w l e m n =
    cond (leb l n) m
    (cond (leb e n) (set_bit (m * 2 ^ (n + 1 - e) % 2 ^ w) 0)
    (cond (ltb w (e - n)) m (set_bit m (e - 1 - n))))

-- the rule for one key: e is within the limit, no bit beyond the width or for a number below 0, and the highest number is marked
unfoldable pub sound : ℕ → ℕ → ℕ → ℕ → Bool
sound w l e m = leb e l && ltb m (2 ^ min w e) && (eqb e 0 || bit m 0)

-- the gap count
unfoldable pub gaps : ℕ → ℕ → ℕ → ℕ
gaps w e m = gap_count w e (marked e m)

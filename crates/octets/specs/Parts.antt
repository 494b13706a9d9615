-- Parts of a list of bytes, and bytes put into one.
-- Assumes nothing.
use Rattle.std.specs.Prelude.{ℕ, ◌+◌, ◌-◌, cond, List, [], ◌++◌, leb, length, take, drop}

-- the len bytes of s from start, or nothing where they do not fit
unfoldable pub part : List ℕ → ℕ → ℕ → List ℕ
part s start len = cond (leb start (length s)) (cond (leb len (length s - start)) (take len (drop start s)) []) []

-- d with src over it from at
abbrev pub over : List ℕ → ℕ → List ℕ → List ℕ
over d at src = take at d ++ src ++ drop (at + length src) d

-- the same where it fits, else d as it was
unfoldable pub put : List ℕ → ℕ → List ℕ → List ℕ
put d at src = cond (leb (at + length src) (length d)) (over d at src) d

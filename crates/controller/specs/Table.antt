-- The table: a list of rows, each free or open.
-- Assumes nothing.
use Rattle.std.specs.Prelude.{ℕ, ◌+◌, Bool, true, false, cond, ◌&&◌, ◌||◌, List, [], ◌∷◌, eqb, ltb, get_or}
use Rattle.rows.specs.Ends.{Ends, free_ends, is_free, is_open, is_split, id_of}

-- how many rows it has
abbrev pub size : ℕ
size = 16

-- the row at i; beyond the last one it is as a free one
abbrev pub row_at : List Ends → ℕ → Ends
row_at t i = get_or t i free_ends

-- p holds of a row
unfoldable pub some : (Ends → Bool) → List Ends → Bool
some p [] = false
some p (e ∷ rest) = p e || some p rest

-- the place of the first row of which p holds, the number of rows where there is none
unfoldable pub lowest : (Ends → Bool) → List Ends → ℕ
lowest p [] = 0
lowest p (e ∷ rest) = cond (p e) 0 (lowest p rest + 1)

-- it is open, and has this Session ID
unfoldable pub has : ℕ → Ends → Bool
has id e = is_open e && eqb (id_of e) id

-- two open rows share a Session ID, or a row's two differ
unfoldable pub clashes : List Ends → Bool
clashes [] = false
clashes (e ∷ rest) = is_split e || ((is_open e && some (has (id_of e)) rest) || clashes rest)

-- no row's two differ, and the Session IDs of the open rows rise from row to row, from n on: then no two are shared, and that is seen in one
-- scan
unfoldable pub rises : ℕ → List Ends → Bool
rises n [] = true
rises n (e ∷ rest) = cond (is_split e || (is_open e && ltb (id_of e) n)) false (rises (cond (is_free e) n (id_of e + 1)) rest)

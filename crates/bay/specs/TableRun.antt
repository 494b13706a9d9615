-- Runs of table calls, each given the table that the last one left.
-- Assumes nothing.
use Rattle.std.specs.Prelude.{ℕ, List, [], ◌∷◌, replicate}
use Rattle.rows.specs.Ends.{Ends, free_ends}
use Rattle.controller.specs.Calls.{TableCall, table_after}

-- n free rows
abbrev pub empty_table : ℕ → List Ends
empty_table n = replicate n free_ends

-- the table after a run
unfoldable pub table_run : List Ends → List TableCall → List Ends
table_run t [] = t
table_run t (c ∷ cs) = table_run (table_after t c) cs

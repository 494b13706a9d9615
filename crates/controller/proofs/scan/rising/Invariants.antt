-- the rows before the index rise, up to what is below `least`
use mathlib.Core.Path.{◌≡◌}
use lib.ListN.{drop}
use Rattle.controller.specs.Table.{rises}
use Rattle.controller.specs.Words.{rows_of}
use Rattle.controller.proofs.scan.rising.Given as goal

abbrev pub invariant-loop-row : goal.invariant-loop-row
invariant-loop-row l = rises 0 (rows_of l.table) ≡ rises l.least (rows_of (drop l.row-index l.table))

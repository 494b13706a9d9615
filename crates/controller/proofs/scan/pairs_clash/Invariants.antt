-- no row before the rest is split, or open with an open one after it that has its Session ID
use mathlib.Core.Path.{◌≡◌}
use lib.ListN.{length}
use Rattle.controller.specs.Table.{clashes}
use Rattle.controller.specs.Words.{rows_of}
use Rattle.controller.proofs.scan.pairs_clash.Given as goal

abbrev pub invariant-loop-row : goal.invariant-loop-row
invariant-loop-row l = clashes (rows_of l.table) ≡ clashes (rows_of l.rest)

abbrev pub decreases-loop-row : goal.decreases-loop-row
decreases-loop-row l = length l.rest

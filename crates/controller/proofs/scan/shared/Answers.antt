use mathlib.Core.List.{List}
use Prim.Native.Nat.{ℕ}
use Rattle.std.proofs.Common.{rules}
use Rattle.std.proofs.lemmas.Iterator.{YieldsList-from_slice}
use Rattle.std.proofs.lemmas.Iterator.Search.{any_from_yields_List}
use Rattle.rows.specs.Ends.{ends_of}
use Rattle.controller.specs.Table.{has}
use Rattle.controller.proofs.Scanning.{some_rows}
use Rattle.controller.proofs.scan.shared.Goals as goal

pub returns : goal.returns
returns c =
    let a = c.args in
    rw (some_rows (has a.id) a.rows.now)
    (any_from_yields_List (λ (w : List ℕ). has a.id (ends_of w)) _ _ _ c.any.ensures.ran (YieldsList-from_slice _ (search rules)) (λ x b q k. search rules))

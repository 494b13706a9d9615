use Rattle.octets.proofs.Puts.{putting}
use Rattle.record.proofs.Heads.{partial_length, bare_length}
use Rattle.record.proofs.Writes.{head_written, bare_written}
use native.Mathlib.Omega.{arith}
use mathlib.Core.Path.{sym, ◌∙◌}
use Rattle.record.proofs.header.put_head.Goals as goal

pub returns-then-has_partial : goal.returns-then-has_partial
returns-then-has_partial c =
    let a = c.args in
    let p = sym c.has_partial.ensures ∙ c.if-has_partial.true in
    let l = partial_length a.setting p in
    head_written a.out.now _ _ _ _ _ _ p
    (putting _ _ _ _ (rw c.from.ensures at c.put_little32.ensures) (omega arith)) (putting _ _ _ _ c.put_little16.ensures (omega arith)) (putting _ _ _ _ c.put_little16-then-has_partial.ensures (omega arith))

pub returns-else-has_partial : goal.returns-else-has_partial
returns-else-has_partial c =
    let a = c.args in
    let p = sym c.has_partial.ensures ∙ c.if-has_partial.false in
    let l = bare_length a.setting p in
    bare_written a.out.now _ _ _ a.number _ p
    (putting _ _ _ _ (rw c.from.ensures at c.put_little32.ensures) (omega arith)) (putting _ _ _ _ c.put_little16-else-has_partial.ensures (omega arith))

use Rattle.record.proofs.Forms.{small}
use Rattle.octets.proofs.Puts.{putting}
use Rattle.record.proofs.Writes.{sealed_written}
use Rattle.octets.specs.Fields.{little}
use Rattle.record.specs.Shape.{head_len, inner_len}
use Rattle.record.specs.Write.{body_len, body_of}
use native.Mathlib.Omega.{arith}
use lib.ListN.{length}
use mathlib.Core.Path.{sym, ◌∙◌}
use Rattle.record.proofs.writer.put_body.Goals as goal

pub returns-then-auth_only : goal.returns-then-auth_only
unfolding body_of body_len
returns-then-auth_only c =
    let clear = sym c.auth_only.ensures ∙ c.if-auth_only.true in
    let fits = rw clear at c.requires in
    rw clear (putting _ _ _ _ (rw c.head_len-at.ensures at c.put.ensures) (omega arith))

pub returns : goal.returns
unfolding body_of body_len inner_len
returns c =
    let a = c.args in
    let hidden = sym c.auth_only.ensures ∙ c.if-auth_only.false in
    let fits = rw hidden at c.requires in
    rw hidden
    (sealed_written a.out.now _ _ _ (head_len a.setting) (little (inner_len a.setting) (length a.app.now)) a.app.now a.random.now (omega arith)
    (putting _ _ _ _ (rw c.head_len-at.ensures at c.put_little16.ensures) (omega arith))
    (putting _ _ _ _ (rw (c.head_len-at.ensures, c.inner_len.ensures) at c.put-2.ensures) (omega arith))
    (putting _ _ _ _ (rw (c.head_len-at.ensures, c.inner_len.ensures) at c.put-3.ensures) (omega arith)))

pub overflow_add-a1 : goal.overflow_add-a1
overflow_add-a1 c =
    let b = small c.args.setting in omega (arith, c.head_len-at.ensures, c.inner_len.ensures)

pub overflow_add-a2 : goal.overflow_add-a2
unfolding body_len
overflow_add-a2 c =
    let b = small c.args.setting in
    let hidden = sym c.auth_only.ensures ∙ c.if-auth_only.false in
    let fits = rw hidden at c.requires in
    omega (arith, c.head_len-at.ensures, c.inner_len.ensures)

use Rattle.std.proofs.Common.{rules, ◌≡◌, Err, Ok}
use Rattle.answers.proofs.Answer.{number_some}
use Rattle.record.proofs.Forms.{refused_form, refused_bytes, short_form, short_bytes, good_form_is, good_bytes, total_is}
use Rattle.record.proofs.Writes.{body_written}
use Rattle.record.specs.Write.{body_of, front_of, length_for}
use Rattle.record.specs.Shape.{head_len}
use native.Mathlib.Omega.{arith}
use lib.ListN.{length}
use Prim.Native.Nat.{◌-◌, ◌≤◌}
use mathlib.Core.Path.{refl, ◌∙◌}
use Rattle.record.proofs.writer.write.Goals as goal

pub returns-in_err-form-clause-form : goal.returns-in_err-form-clause-form
returns-in_err-form-clause-form c =
    let why = c.in_err-form.field-0.0 in
    let up : c.from_residual.result ≡ Err why = search rules in
    let asked : c.plan.result ≡ Err why = search rules in
    rw up (refused_form _ 0 _ _ _ _ (rw asked at c.plan.ensures) (number_some why))

pub returns-in_err-form-clause-bytes : goal.returns-in_err-form-clause-bytes
returns-in_err-form-clause-bytes c =
    let why = c.in_err-form.field-0.0 in
    let asked : c.plan.result ≡ Err why = search rules in
    refused_bytes _ _ _ _ _ _ (rw asked at c.plan.ensures) (number_some why)

pub returns-then-out-form-clause-form : goal.returns-then-out-form-clause-form
returns-then-out-form-clause-form c =
    let asked : c.plan.result ≡ Ok c.in_ok-form.form = search rules in
    short_form _ 0 _ _ _ _ (rw asked at c.plan.ensures) refl c.if-out-form.true

pub returns-then-out-form-clause-bytes : goal.returns-then-out-form-clause-bytes
returns-then-out-form-clause-bytes c =
    let asked : c.plan.result ≡ Ok c.in_ok-form.form = search rules in
    short_bytes _ _ _ _ _ _ (rw asked at c.plan.ensures) refl c.if-out-form.true

pub overflow_sub-form : goal.overflow_sub-form
overflow_sub-form c =
    let a = c.args in
    let asked : c.plan.result ≡ Ok c.in_ok-form.form = search rules in
    let t = total_is a.setting a.number a.app.now a.random.now a.out.now _ (rw asked at c.plan.ensures) refl in
    omega arith

pub put_head-requires : goal.put_head-requires
put_head-requires c =
    let a = c.args in
    let asked : c.plan.result ≡ Ok c.in_ok-form.form = search rules in
    let t = total_is a.setting a.number a.app.now a.random.now a.out.now _ (rw asked at c.plan.ensures) refl in
    let r : c.in_ok-form.form.total ≤ length a.out.now = c.if-out-form.false in
    omega arith

pub put_body-requires : goal.put_body-requires
put_body-requires c =
    let a = c.args in
    let asked : c.plan.result ≡ Ok c.in_ok-form.form = search rules in
    let t = total_is a.setting a.number a.app.now a.random.now a.out.now _ (rw asked at c.plan.ensures) refl in
    let r : c.in_ok-form.form.total ≤ length a.out.now = c.if-out-form.false in
    omega arith

pub returns-clause-form : goal.returns-clause-form
returns-clause-form c =
    let asked : c.plan.result ≡ Ok c.in_ok-form.form = search rules in
    good_form_is _ 0 _ _ _ _ (rw asked at c.plan.ensures) refl c.if-out-form.false

pub returns-clause-bytes : goal.returns-clause-bytes
unfolding front_of
returns-clause-bytes c =
    let a = c.args in
    let asked : c.plan.result ≡ Ok c.in_ok-form.form = search rules in
    let e = rw asked at c.plan.ensures in
    let t = total_is a.setting a.number a.app.now a.random.now a.out.now _ e refl in
    let n : c.in_ok-form.form.total - head_len a.setting ≡ length_for a.setting (length a.app.now) (length a.random.now) = omega arith in
    body_written a.out.now _ _ a.setting a.number _ (body_of a.setting a.app.now a.random.now)
    (rw (c.head_len-head.ensures, n) at c.put_head.ensures) c.put_body.ensures
    ∙ good_bytes _ _ _ _ _ _ e refl c.if-out-form.false

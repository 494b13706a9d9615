use Rattle.std.proofs.Common.{rules, ◌≡◌, Ok, Err}
use borrow.Author.Tests.{eq-eqb, ne_eqb}
use Rattle.answers.proofs.Answer.{number_some}
use Rattle.channel.proofs.Building.{below_limit, build_no, row_bad, row_spent, build_write, build_ok, bytes_are}
use native.Mathlib.Omega.{arith}
use mathlib.Core.Path.{refl, sym, ◌∙◌}
use Rattle.channel.proofs.sender.Sender.build.Goals as goal

pub returns-then-is_bad : goal.returns-then-is_bad
returns-then-is_bad c = build_no _ _ _ _ 1 (row_bad _ _ _ _ (sym c.is_bad.ensures ∙ c.if-is_bad.true)) (λ z. omega arith)

pub returns-then-number-self : goal.returns-then-number-self
returns-then-number-self c =
    build_no _ _ _ _ 8 (row_spent _ _ _ _ (sym c.is_bad.ensures ∙ c.if-is_bad.false) (eq-eqb _ _ c.if-number-self.true)) (λ z. omega arith)

pub returns-in_err-form : goal.returns-in_err-form
returns-in_err-form c =
    let good = sym c.is_bad.ensures ∙ c.if-is_bad.false in
    let left = ne_eqb _ _ c.if-number-self.false in
    let why = c.in_err-form.field-0.0 in
    let wrote : c.write.result ≡ Err why = search rules in
    let up : c.from_residual.result ≡ Err why = search rules in (
      rw up (build_write _ _ _ _ good left _ (rw wrote at c.write.ensures.form) (number_some why)),
      c.write.ensures.bytes ∙ bytes_are _ _ _ _ good left,
    )

pub overflow_add-next : goal.overflow_add-next
overflow_add-next c =
    let a = c.args in
    omega (arith, below_limit a.self (sym c.is_bad.ensures ∙ c.if-is_bad.false) (ne_eqb _ _ c.if-number-self.false))

pub returns : goal.returns
returns c =
    let good = sym c.is_bad.ensures ∙ c.if-is_bad.false in
    let left = ne_eqb _ _ c.if-number-self.false in
    let wrote : c.write.result ≡ Ok c.in_ok-form.form = search rules in (
      build_ok _ _ _ _ good left _ (rw wrote at c.write.ensures.form) refl c.nonce.ensures,
      c.write.ensures.bytes ∙ bytes_are _ _ _ _ good left,
    )

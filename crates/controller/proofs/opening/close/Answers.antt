use Rattle.std.proofs.Common.{rules, ◌≡◌, Ok, Err}
use mathlib.Core.Path.{refl}
use Rattle.answers.proofs.Answer.{number_some}
use Rattle.controller.proofs.Entering.{close_refused, close_frees}
use Rattle.controller.proofs.opening.close.Goals as goal

pub returns-in_err-to : goal.returns-in_err-to
returns-in_err-to c =
    let why = c.in_err-to.field-0.0 in
    let way : c.by_number.result ≡ Err why = search rules in
    let up : c.from_residual.result ≡ Err why = search rules in
    rw up (close_refused _ _ _ (rw way at c.by_number.ensures) (number_some why))

pub returns : goal.returns
returns c =
    let way : c.by_number.result ≡ Ok c.in_ok-to.to = search rules in
    rw c.put_row.ensures (close_frees _ _ _ (rw way at c.by_number.ensures) refl)

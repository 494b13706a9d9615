use Rattle.std.proofs.Common.{rules, ◌≡◌, Ok, Err}
use Rattle.controller.proofs.Asking.{step_shut, step_keeps, step_changes, drop_quiet}
use Rattle.controller.proofs.receiving.drop.Goals as goal

pub returns-in_err-to : goal.returns-in_err-to
returns-in_err-to c =
    let why = c.in_err-to.field-0.0 in
    let way : c.by_number.result ≡ Err why = search rules in
    let up : c.from_residual.result ≡ Err why = search rules in
    rw up (step_shut _ _ _ why (rw way at c.by_number.ensures))

pub returns-in_err-next : goal.returns-in_err-next
returns-in_err-next c =
    let why = c.in_err-next.field-0.0 in
    let way : c.by_number.result ≡ Ok c.in_ok-to.to = search rules in
    let step : c.drop.result ≡ Err why = search rules in
    let up : c.from_residual-in_err-next.result ≡ Err why = search rules in
    rw up
    (step_keeps _ _ _ _ (rw way at c.by_number.ensures) why (rw (c.receiver.ensures, step) at c.drop.ensures) (drop_quiet _))

pub returns : goal.returns
returns c =
    let way : c.by_number.result ≡ Ok c.in_ok-to.to = search rules in
    let step : c.drop.result ≡ Ok c.in_ok-next.next = search rules in
    rw c.put_row.ensures
    (step_changes _ _ _ _ (rw way at c.by_number.ensures) c.in_ok-next.next (rw (c.receiver.ensures, step) at c.drop.ensures)
    c.with_receiver.result.words c.with_receiver.ensures)

use Rattle.std.proofs.Common.{rules, ◌≡◌, Ok, Err}
use mathlib.Core.Path.{refl}
use Rattle.answers.proofs.Answer.{number_some}
use Rattle.controller.proofs.Posting.{turn_shut, turn_refuses, turn_changes}
use Rattle.controller.proofs.sending.change_sender.Goals as goal

pub returns-in_err-to : goal.returns-in_err-to
returns-in_err-to c =
    let why = c.in_err-to.field-0.0 in
    let way : c.by_number.result ≡ Err why = search rules in
    let up : c.from_residual.result ≡ Err why = search rules in
    rw up (turn_shut _ _ _ (rw way at c.by_number.ensures) c.args.iv (number_some why))

pub returns-in_err-next : goal.returns-in_err-next
returns-in_err-next c =
    let why = c.in_err-next.field-0.0 in
    let way : c.by_number.result ≡ Ok c.in_ok-to.to = search rules in
    let step : c.change_key.result ≡ Err why = search rules in
    let up : c.from_residual-in_err-next.result ≡ Err why = search rules in
    let turned = rw (c.sender.ensures, step) at c.change_key.ensures in
    rw up (turn_refuses _ _ _ (rw way at c.by_number.ensures) c.args.iv refl _ turned (number_some why))

pub returns : goal.returns
returns c =
    let way : c.by_number.result ≡ Ok c.in_ok-to.to = search rules in
    let step : c.change_key.result ≡ Ok c.in_ok-next.next = search rules in
    let turned = rw (c.sender.ensures, step) at c.change_key.ensures in
    rw c.put_row.ensures
    (turn_changes _ _ _ (rw way at c.by_number.ensures) c.args.iv refl _ turned refl c.with_sender.result.words c.with_sender.ensures.0 c.with_sender.ensures.1)

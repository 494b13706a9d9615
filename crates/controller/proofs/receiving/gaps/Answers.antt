use Rattle.std.proofs.Common.{rules, ◌≡◌, Ok, Err}
use mathlib.Core.Path.{ap, ◌∙◌}
use Rattle.channel.specs.Receiver.{counted}
use Rattle.controller.proofs.Asking.{way_shut, row_asked}
use Rattle.controller.proofs.receiving.gaps.Goals as goal

pub returns-in_err-to : goal.returns-in_err-to
returns-in_err-to c =
    let why = c.in_err-to.field-0.0 in
    let way : c.by_number.result ≡ Err why = search rules in
    let up : c.from_residual.result ≡ Err why = search rules in
    rw up (ap counted (way_shut _ _ _ why (rw way at c.by_number.ensures)).0)

pub returns : goal.returns
returns c =
    let way : c.by_number.result ≡ Ok c.in_ok-to.to = search rules in
    rw c.receiver.ensures at c.gaps.ensures ∙ ap counted (row_asked _ _ _ _ (rw way at c.by_number.ensures))

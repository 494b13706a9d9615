use Rattle.std.proofs.Common.{rules, ◌≡◌, Ok, Err}
use Rattle.answers.proofs.Answer.{number_some}
use Rattle.channel.proofs.Calls.{settle_no, settle_inner, settle_ok}
use mathlib.Core.Path.{refl, sym, ◌∙◌}
use Rattle.channel.proofs.receiver.Receiver.settle.Goals as goal

pub returns-in-Err : goal.returns-in-Err
returns-in-Err c =
    let why = c.in-Err.why in
    let checked : c.check.result ≡ Err why = search rules in
    settle_no _ _ _ _ _ _ _ _ (rw checked at c.check.ensures) (number_some why)

pub returns-then-inner_bad : goal.returns-then-inner_bad
returns-then-inner_bad c =
    let checked : c.check.result ≡ Ok c.in-Ok.seen = search rules in
    settle_inner _ _ _ _ _ _ _ _ (rw checked at c.check.ensures) refl c.marked-next.ensures (sym c.inner_bad.ensures ∙ c.if-inner_bad.true)

pub returns : goal.returns
returns c =
    let checked : c.check.result ≡ Ok c.in-Ok.seen = search rules in
    rw c.data_len.ensures
    (settle_ok _ _ _ _ _ _ _ _ (rw checked at c.check.ensures) refl c.marked-next.ensures (sym c.inner_bad.ensures ∙ c.if-inner_bad.false))

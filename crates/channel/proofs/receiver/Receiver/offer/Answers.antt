use Rattle.std.proofs.Common.{rules, ◌≡◌, Ok, Err}
use Rattle.answers.proofs.Answer.{number_some}
use Rattle.channel.proofs.Calls.{offer_no, offer_ok}
use mathlib.Core.Path.{refl}
use Rattle.channel.proofs.receiver.Receiver.offer.Goals as goal

pub returns-in_err-seen : goal.returns-in_err-seen
returns-in_err-seen c =
    let why = c.in_err-seen.field-0.0 in
    let looked : c.look.result ≡ Err why = search rules in
    let up : c.from_residual.result ≡ Err why = search rules in
    rw up (offer_no _ _ _ _ (rw looked at c.look.ensures) (number_some why))

pub returns : goal.returns
returns c =
    let looked : c.look.result ≡ Ok c.in_ok-seen.seen = search rules in
    offer_ok _ _ _ _ (rw looked at c.look.ensures) refl c.count_at.ensures c.nonce.ensures

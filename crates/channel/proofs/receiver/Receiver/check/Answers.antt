use Rattle.std.proofs.Common.{rules, ◌≡◌, Ok, Err}
use borrow.Author.Tests.{eq-eqb, ne_eqb}
use Rattle.answers.proofs.Answer.{number_some}
use Rattle.channel.proofs.Calls.{passed_no, passed_stale, passed_plain, passed_mac, passed_ok}
use mathlib.Core.Bool.{not}
use mathlib.Core.Path.{refl, ap}
use Rattle.channel.proofs.receiver.Receiver.check.Goals as goal

pub returns-in_err-seen : goal.returns-in_err-seen
returns-in_err-seen c =
    let why = c.in_err-seen.field-0.0 in
    let looked : c.look.result ≡ Err why = search rules in
    let up : c.from_residual.result ≡ Err why = search rules in
    rw up (passed_no _ _ _ _ _ _ _ _ (rw looked at c.look.ensures) (number_some why))

pub returns-then-verdict-count_at : goal.returns-then-verdict-count_at
returns-then-verdict-count_at c =
    let looked : c.look.result ≡ Ok c.in_ok-seen.seen = search rules in
    passed_stale _ _ _ _ _ _ _ _ (rw looked at c.look.ensures) refl (rw c.count_at.ensures at c.if-verdict-count_at.true)

pub returns-then-verdict-seen : goal.returns-then-verdict-seen
returns-then-verdict-seen c =
    let looked : c.look.result ≡ Ok c.in_ok-seen.seen = search rules in
    passed_plain _ _ _ _ _ _ _ _ (rw looked at c.look.ensures) refl (rw c.count_at.ensures at c.if-verdict-count_at.false)
    (ap not (ne_eqb _ _ c.if-verdict-seen.true))

pub returns-then-not-verdict : goal.returns-then-not-verdict
returns-then-not-verdict c =
    let looked : c.look.result ≡ Ok c.in_ok-seen.seen = search rules in
    passed_mac _ _ _ _ _ _ _ _ (rw looked at c.look.ensures) refl (rw c.count_at.ensures at c.if-verdict-count_at.false)
    (ap not (eq-eqb _ _ c.if-verdict-seen.false)) c.if-not-verdict.true

pub returns : goal.returns
returns c =
    let looked : c.look.result ≡ Ok c.in_ok-seen.seen = search rules in
    passed_ok _ _ _ _ _ _ _ _ (rw looked at c.look.ensures) refl (rw c.count_at.ensures at c.if-verdict-count_at.false)
    (ap not (eq-eqb _ _ c.if-verdict-seen.false)) c.if-not-verdict.false

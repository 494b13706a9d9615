use Rattle.std.proofs.Common.{rules, ◌≡◌, Ok, Err}
use mathlib.Core.Path.{refl, ◌∙◌}
use Rattle.answers.proofs.Answer.{number_some}
use Rattle.controller.proofs.Posting.{build_shut, build_refuses, build_changes}
use Rattle.controller.proofs.sending.build.Goals as goal

pub returns-in_err-to : goal.returns-in_err-to
returns-in_err-to c =
    let a = c.args in
    let why = c.in_err-to.field-0.0 in
    let way : c.by_number.result ≡ Err why = search rules in
    let up : c.from_residual.result ≡ Err why = search rules in
    rw up (build_shut _ _ _ (rw way at c.by_number.ensures) a.app.now a.random.now a.out.now (number_some why))

pub returns-in_err-draft : goal.returns-in_err-draft
returns-in_err-draft c =
    let a = c.args in
    let why = c.in_err-draft.field-0.0 in
    let way : c.by_number.result ≡ Ok c.in_ok-to.to = search rules in
    let built : c.build.result ≡ Err why = search rules in
    let up : c.from_residual-in_err-draft.result ≡ Err why = search rules in
    let made = rw (c.sender.ensures, built) at c.build.ensures in
    let none = build_refuses _ _ _ (rw way at c.by_number.ensures) a.app.now a.random.now a.out.now refl _ made.0 (number_some why) in
    rw up (none.0, made.1 ∙ none.1, none.2, none.3)

pub returns : goal.returns
returns c =
    let a = c.args in
    let way : c.by_number.result ≡ Ok c.in_ok-to.to = search rules in
    let built : c.build.result ≡ Ok (c.in_ok-draft.draft, c.in_ok-draft.next) = search rules in
    let made = rw (c.sender.ensures, built) at c.build.ensures in
    let new =
    build_changes _ _ _ (rw way at c.by_number.ensures) a.app.now a.random.now a.out.now refl _ made.0 refl c.with_sender.result.words
    c.with_sender.ensures.0 c.with_sender.ensures.1 in
    rw c.put_row.ensures (new.0, made.1 ∙ new.1, new.2, new.3)

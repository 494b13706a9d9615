use Rattle.std.proofs.Common.{rules, ◌≡◌, Some, None, Err}
use borrow.Author.Tests.{lt-ltb, le-ltb}
use mathlib.Core.Path.{sym, ◌∙◌}
use Rattle.answers.specs.declared.refusal.Refusal.TheVariants.{Unknown}
use Rattle.record.specs.Shape.{shortest}
use Rattle.controller.proofs.Reaching.{session_clash, session_short, session_unknown, session_found}
use Rattle.controller.proofs.Scanning.{none_found, lowest_found}
use Rattle.controller.proofs.door.by_session.Goals as goal

pub returns-then-clash : goal.returns-then-clash
returns-then-clash c = session_clash _ _ (sym c.clash.ensures ∙ c.if-clash.true)

pub returns-then-rec-lt-SHORTEST : goal.returns-then-rec-lt-SHORTEST
unfolding shortest
returns-then-rec-lt-SHORTEST c = session_short _ _ (sym c.clash.ensures ∙ c.if-clash.false) (lt-ltb _ _ c.if-rec-lt-SHORTEST.true)

pub returns-in_err-at : goal.returns-in_err-at
unfolding shortest
returns-in_err-at c =
    let found : c.find_open.result ≡ None = search rules in
    let up : c.from_residual.result ≡ Err Unknown = search rules in
    let none = none_found _ _ (sym (rw c.little32.ensures at c.find_open.ensures) ∙ found) in
    rw up (session_unknown _ _ (sym c.clash.ensures ∙ c.if-clash.false) (le-ltb _ _ c.if-rec-lt-SHORTEST.false) none)

pub returns : goal.returns
unfolding shortest
returns c =
    let at : c.find_open.result ≡ Some c.in_ok-at.at = search rules in
    let found = lowest_found _ _ _ (sym (rw c.little32.ensures at c.find_open.ensures) ∙ at) in
    (λ i. record { answer = 0; at = c.in_ok-at.at; row = record { words = c.row_at.ensures i } })
    ∙ session_found _ _ (sym c.clash.ensures ∙ c.if-clash.false) (le-ltb _ _ c.if-rec-lt-SHORTEST.false) found.0 _ found.1

use Rattle.std.proofs.Common.{rules, ◌≡◌, Ok, Err}
use mathlib.Core.Path.{refl, sym, ap, ◌∙◌}
use Rattle.answers.specs.Refusal.{authentic}
use Rattle.channel.specs.declared.ffi.Settled.{Settled}
use Rattle.controller.specs.Answers.{taken}
use Rattle.controller.specs.declared.ffi.Taken.{Taken}
use Rattle.controller.proofs.Asking.{way_shut, row_asked, row_keeps, row_changes}
use Rattle.controller.proofs.receiving.settle.Goals as goal

-- what Settle of a channel answers, without the state
without : Settled → Taken
without s = record { answer = s.answer; place = s.place; length = s.length }

pub returns-in_err-to : goal.returns-in_err-to
returns-in_err-to c =
    let why = c.in_err-to.field-0.0 in
    let way : c.by_session.result ≡ Err why = search rules in
    let up : c.from_residual.result ≡ Err why = search rules in
    let s = way_shut _ _ _ why (rw way at c.by_session.ensures) in
    rw up (ap taken s.0, s.1, s.2)

pub returns-then-moves : goal.returns-then-moves
unfolding without
returns-then-moves c =
    let way : c.by_session.result ≡ Ok c.in_ok-to.to = search rules in
    let run = rw c.receiver.ensures at c.settle-settled.ensures in
    let moves = ap authentic (sym (ap (λ (y : Settled). y.answer) run)) ∙ sym c.moves.ensures ∙ c.if-moves.true in
    let s =
    row_changes _ _ _ _ (rw way at c.by_session.ensures) _ refl moves _ (ap (λ (y : Settled). y.next) run) c.with_receiver.result.words
    c.with_receiver.ensures in
    rw c.put_row.ensures (ap without run ∙ ap taken s.0, s.1, s.2)

pub returns-else-moves : goal.returns-else-moves
unfolding without
returns-else-moves c =
    let way : c.by_session.result ≡ Ok c.in_ok-to.to = search rules in
    let run = rw c.receiver.ensures at c.settle-settled.ensures in
    let e = rw way at c.by_session.ensures in
    let s = row_keeps _ _ _ _ e _ (ap (λ (y : Settled). y.answer) run) (sym c.moves.ensures ∙ c.if-moves.false) in
    (ap without run ∙ ap taken (row_asked _ _ _ _ e), s.1, s.2)

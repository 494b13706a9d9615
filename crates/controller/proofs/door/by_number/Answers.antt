use mathlib.Core.Path.{sym, ◌∙◌}
use Rattle.controller.proofs.Reaching.{number_clash, number_unknown, number_found}
use Rattle.controller.proofs.door.by_number.Goals as goal

pub returns-then-clash : goal.returns-then-clash
returns-then-clash c = number_clash _ _ (sym c.clash.ensures ∙ c.if-clash.true)

pub returns-then-is_free : goal.returns-then-is_free
returns-then-is_free c =
    let found = rw c.from-at.ensures at c.row_at-row.ensures in
    number_unknown _ _ (sym c.clash.ensures ∙ c.if-clash.false) (rw (← found) (sym c.is_free.ensures ∙ c.if-is_free.true))

pub returns : goal.returns
returns c =
    let a = c.args in
    let found = rw c.from-at.ensures at c.row_at-row.ensures in
    (λ i. record { answer = 0; at = c.from-at.ensures i; row = record { words = found i } })
    ∙ number_found _ _ (sym c.clash.ensures ∙ c.if-clash.false) (rw (← found) (sym c.is_free.ensures ∙ c.if-is_free.false))

use Rattle.numbers.proofs.Calls.{after_spent, after_ahead, after_old, after_within}
use borrow.Author.Rules.{rules}
use Rattle.numbers.proofs.window.Window.mark.Goals as goal

pub returns-then-limit-n : goal.returns-then-limit-n
returns-then-limit-n c = after_spent _ _ _ (search rules) c.if-limit-n.true

pub returns-then-next-n : goal.returns-then-next-n
returns-then-next-n c =
    after_ahead _ _ _ c.if-limit-n.false c.if-next-n.true
    c.span-width.ensures c.moved-up.ensures c.cut-kept.ensures c.set-set.ensures

pub returns-then-width-behind : goal.returns-then-width-behind
returns-then-width-behind c =
    after_old _ _ _ (search rules) c.if-limit-n.false c.if-next-n.false c.span-width.ensures
    c.if-width-behind.true

pub returns : goal.returns
returns c =
    after_within _ _ _ (search rules) c.if-limit-n.false c.if-next-n.false
    c.span-width.ensures c.if-width-behind.false c.set-set-2.ensures

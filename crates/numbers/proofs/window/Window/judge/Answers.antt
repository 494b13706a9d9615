use Rattle.numbers.proofs.Calls.{judged_spent, judged_ahead, judged_old, judged_repeat, judged_new}
use Rattle.numbers.proofs.window.Window.judge.Goals as goal

pub returns-then-limit-n : goal.returns-then-limit-n
returns-then-limit-n c = judged_spent _ _ _ c.if-limit-n.true

pub returns-then-next-n : goal.returns-then-next-n
returns-then-next-n c = judged_ahead _ _ _ c.if-limit-n.false c.if-next-n.true

pub returns-then-reach-behind : goal.returns-then-reach-behind
returns-then-reach-behind c =
    judged_old _ _ _ c.if-limit-n.false c.if-next-n.false c.span-reach.ensures c.if-reach-behind.true

pub returns-then-seen : goal.returns-then-seen
returns-then-seen c =
    judged_repeat _ _ _ c.if-limit-n.false
    c.if-next-n.false c.span-reach.ensures
    c.if-reach-behind.false c.test-seen.ensures c.if-seen.true

pub returns : goal.returns
returns c =
    judged_new _ _ _ c.if-limit-n.false c.if-next-n.false
    c.span-reach.ensures c.if-reach-behind.false c.test-seen.ensures c.if-seen.false

use Rattle.numbers.proofs.Calls.{held_lt, count_le, gaps_are}
use borrow.Author.Rules.{rules}
use Rattle.numbers.proofs.window.Window.gaps.Goals as goal

pub overflow_cast-result : goal.overflow_cast-result
overflow_cast-result c = record { fits = held_lt _ _ c.held-k.ensures }

pub overflow_sub-result : goal.overflow_sub-result
overflow_sub-result c = count_le _ _ (search rules) c.held-k.ensures c.cut-kept.ensures c.count-marked.ensures

pub returns : goal.returns
returns c = gaps_are _ _ (search rules) c.held-k.ensures c.cut-kept.ensures c.count-marked.ensures

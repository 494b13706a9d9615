use Rattle.numbers.proofs.Word.{cut_all, cut_in}
use borrow.Author.Rules.{rules}
use Rattle.numbers.proofs.marks.Marks.cut.Goals as goal

pub returns-then-k-ge-BITS : goal.returns-then-k-ge-BITS
returns-then-k-ge-BITS c = cut_all _ (search rules) _ c.if-k-ge-BITS.true

pub returns : goal.returns
returns c = cut_in _ (search rules) _ c.low-a.ensures c.low-b.ensures c.low-c.ensures c.low-d.ensures

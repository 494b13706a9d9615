use Rattle.numbers.proofs.Word.{lifted_is}
use borrow.Author.Rules.{rules}
use Rattle.numbers.proofs.marks.Marks.lifted.Goals as goal

pub returns : goal.returns
returns c = lifted_is _ (search rules) _ c.requires c.up-a.ensures c.up-b.ensures c.up-c.ensures c.up-d.ensures

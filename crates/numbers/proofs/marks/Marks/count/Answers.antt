use Rattle.numbers.proofs.Word.{ones_four}
use borrow.Author.Rules.{rules}
use Rattle.numbers.proofs.marks.Marks.count.Goals as goal

pub returns : goal.returns
returns c = ones_four _ (search rules)

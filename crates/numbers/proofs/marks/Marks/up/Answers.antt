use Rattle.numbers.proofs.Word.{up_some}
use borrow.Author.Rules.{rules}
use Rattle.numbers.proofs.marks.Marks.up.Goals as goal

pub returns : goal.returns
returns c = up_some _ _ _ (search rules) c.requires

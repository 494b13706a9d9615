use Rattle.numbers.proofs.Word.{same_is}
use borrow.Author.Rules.{rules}
use mathlib.Core.Path.{◌∙◌}
use Rattle.numbers.proofs.marks.Marks.same.Goals as goal

pub returns : goal.returns
returns c = c.eq.ensures ∙ same_is _ _ (search rules) (search rules)

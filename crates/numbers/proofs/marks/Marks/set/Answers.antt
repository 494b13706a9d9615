use Rattle.numbers.proofs.Word.{set_all, set_in}
use borrow.Author.Rules.{rules}
use Rattle.numbers.proofs.marks.Marks.set.Goals as goal

pub returns-then-i-ge-BITS : goal.returns-then-i-ge-BITS
returns-then-i-ge-BITS c = set_all _ (search rules) _ c.if-i-ge-BITS.true

pub returns : goal.returns
returns c = set_in _ (search rules) _ c.if-i-ge-BITS.false

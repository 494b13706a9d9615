use Rattle.numbers.proofs.Word.{test_out, test_in}
use borrow.Author.Rules.{rules}
use Rattle.numbers.proofs.marks.Marks.test.Goals as goal

pub returns-then-i-ge-BITS : goal.returns-then-i-ge-BITS
returns-then-i-ge-BITS c = test_out _ (search rules) _ c.if-i-ge-BITS.true

pub returns : goal.returns
returns c = test_in _ (search rules) _

use Rattle.numbers.proofs.Word.{low_some}
use Rattle.numbers.proofs.marks.Marks.low.Goals as goal

pub returns : goal.returns
returns c = low_some _ _ _ c.if-n-ge-WORD.false

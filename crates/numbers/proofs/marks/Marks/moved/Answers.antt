use Rattle.numbers.proofs.Word.{moved_by_both}
use Rattle.numbers.proofs.marks.Marks.moved.Goals as goal

pub returns : goal.returns
returns c = moved_by_both _ _ c.hopped-up.ensures c.lifted-2.ensures

use Rattle.numbers.proofs.Word.{none_is}
use Rattle.numbers.proofs.marks.Marks.none.Goals as goal

pub returns : goal.returns
returns c = none_is

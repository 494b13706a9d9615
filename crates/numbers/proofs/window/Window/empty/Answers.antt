use Rattle.numbers.proofs.Calls.{empty_of}
use Rattle.numbers.proofs.window.Window.empty.Goals as goal

pub returns : goal.returns
returns c = empty_of c.none-marks.ensures

use Rattle.numbers.proofs.Calls.{sound_test}
use borrow.Author.Rules.{rules}
use Rattle.numbers.proofs.window.Window.sound.Goals as goal

pub returns : goal.returns
returns c =
    sound_test _ _ (search rules) c.held-k.ensures c.cut-low.ensures c.same-within.ensures
    c.test-top.ensures

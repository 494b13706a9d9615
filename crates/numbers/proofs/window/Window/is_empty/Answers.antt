use Rattle.numbers.proofs.Calls.{empty_test}
use borrow.Author.Rules.{rules}
use mathlib.Core.Path.{◌∙◌}
use Rattle.numbers.proofs.window.Window.is_empty.Goals as goal

pub returns : goal.returns
returns c = c.eq.ensures ∙ empty_test _ (search rules) c.empty.ensures

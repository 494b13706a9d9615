use borrow.Author.Rules.{rules}
use mathlib.Core.Path.{◌∙◌}
use Rattle.channel.proofs.Zeros.{key_test}
use Rattle.channel.proofs.key.Key.is_zero.Goals as goal

pub returns : goal.returns
returns c = c.eq.ensures ∙ key_test _ (record { iv = search rules; marks = search rules }) c.zeros.ensures

use borrow.Author.Rules.{rules}
use Rattle.record.specs.Setting.{has_partial}
use Rattle.record.proofs.setting.Setting.has_partial.Goals as goal

pub returns : goal.returns
unfolding has_partial
returns c = search rules

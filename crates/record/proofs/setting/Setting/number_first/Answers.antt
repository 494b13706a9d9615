use borrow.Author.Rules.{rules}
use Rattle.record.specs.Setting.{number_first}
use Rattle.record.proofs.setting.Setting.number_first.Goals as goal

pub returns : goal.returns
unfolding number_first
returns c = search rules

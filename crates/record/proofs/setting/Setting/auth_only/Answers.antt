use borrow.Author.Rules.{rules}
use Rattle.record.specs.Setting.{auth_only}
use Rattle.record.proofs.setting.Setting.auth_only.Goals as goal

pub returns : goal.returns
unfolding auth_only
returns c = search rules

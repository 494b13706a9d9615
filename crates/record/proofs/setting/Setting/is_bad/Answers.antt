use borrow.Author.Rules.{rules}
use Rattle.record.specs.Setting.{bad_mac, bad_width, bad_setting}
use Rattle.record.proofs.setting.Setting.is_bad.Goals as goal

pub returns : goal.returns
unfolding bad_setting bad_mac bad_width
returns c = search rules

use Rattle.std.proofs.Common.{rules, ◌∙◌}
use Rattle.octets.proofs.Blank.{blank_test}
use Rattle.octets.proofs.fields.blank12.Goals as goal

pub returns : goal.returns
returns c = c.eq.ensures ∙ blank_test 12 c.args.s (search rules)

use mathlib.Core.Path.{refl, ◌∙◌}
use native.Mathlib.Omega.{arith}
use Rattle.numbers.proofs.Word.{hopped_is, hopped_out}
use borrow.Author.Rules.{rules}
use Rattle.numbers.proofs.marks.Marks.hopped.Goals as goal

pub returns-in-1 : goal.returns-in-1
returns-in-1 c = hopped_is _ (search rules) 1 refl c.in-1.is

pub returns-in-2 : goal.returns-in-2
returns-in-2 c = hopped_is _ (search rules) 2 refl c.in-2.is

pub returns-in-3 : goal.returns-in-3
returns-in-3 c = hopped_is _ (search rules) 3 refl c.in-3.is

pub returns-in_default : goal.returns-in_default
returns-in_default c = c.none.ensures ∙ hopped_out _ _ (omega (arith, c.in_default))

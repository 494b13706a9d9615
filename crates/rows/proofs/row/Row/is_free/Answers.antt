use mathlib.Core.Path.{sym}
use borrow.Author.Tests.{ne_eqb}
use Rattle.rows.specs.Ends.{receiver_of, ends_of}
use Rattle.rows.proofs.Laws.{limit_not_free}
use Rattle.rows.proofs.row.Row.is_free.Goals as goal

pub returns-then-w-ne0 : goal.returns-then-w-ne0
unfolding receiver_of
returns-then-w-ne0 c = sym (limit_not_free (ends_of c.args.self.words) (ne_eqb _ _ c.if-w-ne0.true))

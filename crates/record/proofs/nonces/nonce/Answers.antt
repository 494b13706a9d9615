use mathlib.Core.Path.{◌∙◌, sym}
use Rattle.record.specs.Nonce.{nonce_of, spread}
use Rattle.record.proofs.nonces.nonce.Goals as goal

pub returns-then-number_first : goal.returns-then-number_first
unfolding nonce_of spread
returns-then-number_first c = c.first.ensures ∙ simp (sym c.number_first.ensures ∙ c.if-number_first.true)

pub returns-else-number_first : goal.returns-else-number_first
unfolding nonce_of spread
returns-else-number_first c = c.last.ensures ∙ simp (sym c.number_first.ensures ∙ c.if-number_first.false)

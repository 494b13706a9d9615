use Rattle.channel.proofs.State.{bad_front, bad_held, bad_bare}
use Rattle.channel.proofs.receiver.Receiver.is_bad.Goals as goal

pub returns-then-is_bad-sound : goal.returns-then-is_bad-sound
returns-then-is_bad-sound c =
    bad_front _ (rw (c.is_bad.ensures, c.sound.ensures, c.rule-rule.ensures) at c.if-is_bad-sound.true)

pub returns-then-self : goal.returns-then-self
returns-then-self c =
    rw (c.sound-then-self.ensures, c.rule-rule.ensures) (bad_held _ (rw (c.is_bad.ensures, c.sound.ensures, c.rule-rule.ensures) at c.if-is_bad-sound.false) c.if-self.true)

pub returns : goal.returns
returns c =
    rw c.is_zero.ensures (bad_bare _ (rw (c.is_bad.ensures, c.sound.ensures, c.rule-rule.ensures) at c.if-is_bad-sound.false) c.if-self.false)

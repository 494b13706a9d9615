-- The State rule of a receiver, case by case.
-- Assumes nothing.
use mathlib.Core.Bool.{Bool, true, false, not, ◌||◌, and-eq-true_iff}
use mathlib.Core.Path.{◌≡◌, refl, sym}
use lib.Dec.{eqb}
use Rattle.answers.proofs.Tests.{true_not_false, or_neither, or_true_left}
use Rattle.octets.specs.Fields.{blank}
use Rattle.numbers.specs.Contract.{is_empty, sound_window}
use Rattle.numbers.proofs.Laws.{empty_sound}
use Rattle.numbers.specs.declared.window.Rule.{Rule}
use Rattle.record.specs.Setting.{bad_setting, rule_of}
use Rattle.channel.specs.declared.key.Key.{Key}
use Rattle.channel.specs.declared.receiver.Receiver.{Receiver}
use Rattle.channel.specs.Key.{is_zero_key}
use Rattle.channel.specs.Receiver.{bad_receiver}

-- a key of zeros has a sound window
zero_sound : (r : Rule) (k : Key) → is_zero_key k ≡ true → sound_window r k.window ≡ true
unfolding is_zero_key
zero_sound r k h = empty_sound r k.window ((and-eq-true_iff (blank 12 k.iv) (is_empty k.window)).0 h).1

or_early : (a b rest : Bool) → (a || b) ≡ true → true ≡ (a || (b || rest))
or_early true b rest h = refl
or_early false b rest h = sym (or_true_left b rest h)

-- a test that another follows from need not be asked after it
or_spared : (a b : Bool) → (a ≡ true → b ≡ true) → not a ≡ (not b || (not a || false))
or_spared true true h = refl
or_spared true false h = absurd (true_not_false (h refl) refl)
or_spared false true h = refl
or_spared false false h = refl

module _ (r : Receiver) where
  abbrev rule : Rule
  rule = rule_of r.setting

  -- the setting is bad, or the current key's window
  abbrev front : Bool
  front = bad_setting r.setting || not (sound_window rule r.current.window)

  pub bad_front : front ≡ true → true ≡ bad_receiver r
  unfolding bad_receiver
  bad_front h = or_early (bad_setting r.setting) _ _ h

  -- where neither is, what an old key that is held decides
  pub bad_held : front ≡ false → r.held ≡ true → (not (sound_window rule r.old.window) || eqb r.count 0) ≡ bad_receiver r
  unfolding bad_receiver
  bad_held h k =
      let f = or_neither (bad_setting r.setting) _ h in
      rw (f.0, f.1, k)

  -- and where none is held: zeros have a sound window, so that it need not be asked
  pub bad_bare : front ≡ false → r.held ≡ false → not (is_zero_key r.old) ≡ bad_receiver r
  unfolding bad_receiver
  bad_bare h k =
      let f = or_neither (bad_setting r.setting) _ h in
      rw (f.0, f.1, k) (or_spared (is_zero_key r.old) _ (zero_sound rule r.old))

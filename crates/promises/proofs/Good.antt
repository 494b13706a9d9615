-- A good state, by the rules behind State one by one, and that no call returns a bad state from a good one.
-- Assumes nothing.
use Prim.Native.Nat.{ℕ, ◌≤◌, ◌<◌}
use mathlib.Core.Path.{◌≡◌, refl}
use mathlib.Core.Logic.{◌≢◌}
use mathlib.Core.Bool.{Bool, true, false, not, ◌&&◌, ◌||◌}
use mathlib.Core.List.{List}
use native.Mathlib.Omega.{arith}
use lib.Dec.{ltb, eqb}
use borrow.Author.Tests.{ltb-false, eqb-false, eq-eqb, ne_eqb, not-false}
use Rattle.answers.proofs.Tests.{or_neither, true_not_false}
use Rattle.channel.specs.Call.{Call, Effect, stay, marking, turning, dropping}
use Rattle.channel.specs.Key.{zero_key, is_zero_key}
use Rattle.channel.specs.Receiver.{new_receiver, bad_receiver, open_receiver, look, change, state_after}
use Rattle.channel.specs.View.{View, no_key}
use Rattle.channel.specs.declared.receiver.Receiver.{Receiver}
use Rattle.numbers.proofs.Laws.{empty_is, sound_none, sound_after}
use Rattle.numbers.specs.Contract.{sound_window}
use Rattle.octets.specs.Fields.{blank}
use Rattle.record.specs.Setting.{bad_setting, open_rows, rule_of}
use Rattle.record.specs.declared.setting.Setting.{Setting}
use Rattle.promises.proofs.Passed.{Allowed, marks, allowed}

-- ---- the rules

-- each rule behind State, by name
pub record Good (r : Receiver) : Type 0 where
  pub accepted : bad_setting r.setting ≡ false
  pub sound_current : sound_window (rule_of r.setting) r.current.window ≡ true
  pub sound_old : sound_window (rule_of r.setting) r.old.window ≡ true
  pub blanks : r.held ≡ false → is_zero_key r.old ≡ true
  pub counted : r.held ≡ true → 0 < r.count

old_good : (h b c : Bool) → (h ≡ false → b ≡ true) → (h ≡ true → c ≡ false) → ((not h && not b) || (h && c)) ≡ false
old_good true b c f g = g refl
old_good false b c f g = rw (f refl)

good_old : (h b c : Bool) → ((not h && not b) || (h && c)) ≡ false → (h ≡ false → b ≡ true) × (h ≡ true → c ≡ false)
good_old true b c e = (λ h. absurd (true_not_false refl h), λ h. e)
good_old false true c e = (λ h. refl, λ h. absurd (true_not_false h refl))
good_old false false c e = absurd (true_not_false refl e)

-- a state that keeps each is not State
pub good_whole : (r : Receiver) → Good r → bad_receiver r ≡ false
unfolding bad_receiver
good_whole r G =
    rw (G.accepted, G.sound_current, G.sound_old)
    (old_good r.held (is_zero_key r.old) (eqb r.count 0) G.blanks
    (λ h. let c : 0 < r.count = G.counted h in ne_eqb r.count 0 (omega arith)))

-- and the other way round
pub good_parts : (r : Receiver) → bad_receiver r ≡ false → Good r
unfolding bad_receiver
good_parts r e =
    let a = or_neither (bad_setting r.setting) _ e in
    let b = or_neither (not (sound_window (rule_of r.setting) r.current.window)) _ a.1 in
    let c = or_neither (not (sound_window (rule_of r.setting) r.old.window)) _ b.1 in
    let d = good_old r.held (is_zero_key r.old) (eqb r.count 0) c.1 in
    record {
      accepted = a.0;
      sound_current = not-false _ b.0;
      sound_old = not-false _ c.0;
      blanks = d.0;
      counted = λ h. let n : r.count ≢ 0 = eqb-false _ _ (d.1 h) in omega arith;
    }

-- the zeros of a key are zero
new_blank : is_zero_key zero_key ≡ true
unfolding is_zero_key blank
new_blank = empty_is

-- the old slot has a key only where it is held
pub held_there : (v : View) (slot : ℕ) → no_key v slot ≡ false → eqb slot 0 ≡ false → v.held ≡ true
unfolding no_key
held_there v slot h z =
    let a = or_neither (ltb 1 slot) _ h in
    let l : slot ≤ 1 = ltb-false _ _ a.0 in
    let n : slot ≢ 0 = eqb-false _ _ z in
    let o : eqb slot 1 ≡ true = eq-eqb slot 1 (omega arith) in
    not-false _ (rw o at a.1)

-- ---- a good state stays good

mark_change : (r : Receiver) (slot n : ℕ) (b : Bool) → eqb slot 0 ≡ b → Good r → (b ≡ false → r.held ≡ true) → Good (change r (marking slot n))
unfolding change
mark_change r slot n true e G h =
    rw e
    (record {
      accepted = G.accepted;
      sound_current = sound_after (rule_of r.setting) r.current.window G.sound_current n;
      sound_old = G.sound_old;
      blanks = G.blanks;
      counted = G.counted;
    })
mark_change r slot n false e G h =
    rw e
    (record {
      accepted = G.accepted;
      sound_current = G.sound_current;
      sound_old = sound_after (rule_of r.setting) r.old.window G.sound_old n;
      blanks = λ f. absurd (true_not_false (h refl) f);
      counted = G.counted;
    })

-- what a call may do keeps a good state good
pub good_change : (r : Receiver) (e : Effect) → Good r → Allowed (look r) e → Good (change r e)
unfolding change look
good_change r stay G a = G
good_change r (marking slot n) G (marks key place) = mark_change r slot n (eqb slot 0) refl G (held_there (look r) slot key)
good_change r (turning iv) G a =
    record {
      accepted = G.accepted;
      sound_current = sound_none (rule_of r.setting);
      sound_old = G.sound_current;
      blanks = λ f. absurd (true_not_false refl f);
      counted = λ f. omega arith;
    }
good_change r dropping G a =
    record {
      accepted = G.accepted;
      sound_current = G.sound_current;
      sound_old = sound_none (rule_of r.setting);
      blanks = λ f. new_blank;
      counted = λ f. absurd (true_not_false f refl);
    }

-- no call returns a bad state from a good one
pub good_kept : (r : Receiver) (c : Call) → bad_receiver r ≡ false → bad_receiver (state_after r c) ≡ false
unfolding state_after
good_kept r c e = good_whole _ (good_change r _ (good_parts r e) (allowed (look r) c))

-- a new receiver is good
pub good_new : (s : Setting) (iv : List ℕ) → bad_setting s ≡ false → Good (new_receiver s iv)
good_new s iv h =
    record {
      accepted = h;
      sound_current = sound_none (rule_of s);
      sound_old = sound_none (rule_of s);
      blanks = λ f. new_blank;
      counted = λ f. absurd (true_not_false f refl);
    }

-- and so is what an open gives that is not refused
pub good_open : (s : Setting) (iv : List ℕ) → bad_setting s ≡ false → Good (open_receiver s iv).next
unfolding open_rows
good_open s iv h = rw h (good_new s iv h)

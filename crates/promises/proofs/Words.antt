-- Page 01's words in demand 2's premises: a state that is not State passes the test, and the names have page 01's numbers.
-- Assumes nothing.
use mathlib.Core.Bool.{Bool, true, false, not, ◌&&◌, ◌||◌}
use Prim.Native.Nat.{ℕ, ◌+◌}
use mathlib.Core.Logic.{inl, inr}
use mathlib.Core.Path.{◌≡◌, refl, ap, ◌∙◌}
use Rattle.answers.proofs.Tests.{true_not_false, tells_true, tells_eq, tells_and}
use Rattle.answers.specs.Reasons.{Tells}
use Rattle.channel.proofs.Decisions.{bad_sender_lem}
use Rattle.channel.specs.Key.{zero_key, is_zero_key}
use Rattle.channel.specs.Reasons.{BadReceiver, BadSender}
use Rattle.channel.specs.Receiver.{bad_receiver}
use Rattle.channel.specs.Sender.{bad_sender}
use Rattle.channel.specs.declared.key.Key.{Key}
use Rattle.channel.specs.declared.receiver.Receiver.{Receiver}
use Rattle.channel.specs.declared.sender.Sender.{Sender}
use Rattle.numbers.proofs.Told.{unsound_told}
use Rattle.numbers.specs.Contract.{window_of, is_empty}
use Rattle.numbers.proofs.Computing.{word_open}
use Rattle.octets.specs.Fields.{blank}
use Rattle.record.proofs.Modes.{clear_mode, sealed_mode}
use Rattle.record.proofs.Page.{values, mac_chosen, width_chosen}
use Rattle.record.proofs.Told.{bad_setting_lem}
use Rattle.record.specs.Reasons.{BadSetting}
use Rattle.record.specs.Setting.{rule_of}
use Rattle.record.specs.declared.setting.Setting.{Setting}
use Rattle.promises.specs.Premises.{PageNumbers}

-- ---- not State

-- a test fails where what it tells does not hold
untold_step : (b : Bool) {p : Type 0} → Tells b p → (p → ⊥) → b ≡ false
untold_step true t h = absurd (h (t.holds refl))
untold_step false t h = refl

untold : {b : Bool} {p : Type 0} → Tells b p → (p → ⊥) → b ≡ false
untold {b} t h = untold_step b t h

neither : {a b : Bool} → a ≡ false → b ≡ false → (a || b) ≡ false
neither p q = rw (p, q)

-- a sender that is not State
pub sender_good : (s : Sender) → (BadSender s → ⊥) → bad_sender s ≡ false
sender_good s h = untold (bad_sender_lem s) h

zero_blank : is_zero_key zero_key ≡ true
unfolding is_zero_key blank is_empty window_of word_open
zero_blank = refl

-- no old key is held, but its fields are not all zero
spare_key : (b : Bool) (k : Key) → ((b ≡ false) × (k ≡ zero_key → ⊥) → ⊥) → (not b && not (is_zero_key k)) ≡ false
spare_key true k h = refl
spare_key false k h = go (is_zero_key k) refl
  where
    go : (z : Bool) → is_zero_key k ≡ z → not z ≡ false
    go true e = refl
    go false e = absurd (h (refl, λ p. true_not_false (ap is_zero_key p ∙ zero_blank) e))

-- a receiver that is not State, whatever its lists hold
pub receiver_good : (r : Receiver) → (BadReceiver r → ⊥) → bad_receiver r ≡ false
unfolding bad_receiver
receiver_good r h =
    neither (untold (bad_setting_lem r.setting) (λ x. h (inl x)))
    (neither (untold (unsound_told (rule_of r.setting) r.current.window) (λ x. h (inr (inl x))))
    (neither (untold (unsound_told (rule_of r.setting) r.old.window) (λ x. h (inr (inr (inl x)))))
    (neither (spare_key r.held r.old (λ x. h (inr (inr (inr (inl x))))))
    (untold (tells_and (tells_true r.held) (tells_eq r.count 0)) (λ x. h (inr (inr (inr (inr x)))))))))

-- ---- page 01's numbers

-- in the setting of a channel the names of the shape have page 01's numbers
pub page_numbers : (s : Setting) → (BadSetting s → ⊥) → PageNumbers s
page_numbers s h =
    let v = values s in
    let m = mac_chosen s (untold (bad_setting_lem s) h) in
    let w = width_chosen s (untold (bad_setting_lem s) h) in
    record {
      most = v.most;
      head = v.header;
      bare = v.bare;
      mac = m.0;
      macs = m.1;
      width = w.0;
      widths = w.1;
      clear = λ k p q. v.clear (clear_mode s k) p q ∙ ap (λ (x : ℕ). p + x) m.0;
      sealed = λ k p q. v.sealed (sealed_mode s k) p q ∙ ap (λ (x : ℕ). 2 + p + q + x) m.0;
    }

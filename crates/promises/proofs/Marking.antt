-- The Settle of an authentic record marks the number that it was called with in its slot, and just that; of the refusals Inner alone does.
-- Assumes nothing.
use Prim.Native.Nat.{ℕ, ◌+◌, ◌-◌, ◌≤◌, ◌<◌}
use mathlib.Core.Path.{◌≡◌, refl, ap, ◌∙◌}
use mathlib.Core.Logic.{◌≢◌, ◌↔◌}
use mathlib.Core.Bool.{Bool, true, false, ◌&&◌, ◌||◌}
use mathlib.Core.List.{List}
use native.Mathlib.Omega.{arith}
use lib.Dec.{leb, eqb}
use borrow.Author.Tests.{eqb-true, eq-eqb, ne_eqb}
use Rattle.numbers.proofs.Laws.{seen_after, next_after}
use Rattle.channel.proofs.Outcome.{effect_is}
use Rattle.answers.specs.Refusal as Refusal
use Rattle.answers.specs.Refusal.{authentic}
use Rattle.answers.proofs.Tests.{true_not_false, or_more}
use Rattle.channel.specs.Call.{Call, offer, settle, gaps, change_key, drop_old, only, marking}
use Rattle.channel.specs.Receiver.{look, change, answer_to, state_after}
use Rattle.channel.specs.Rules.{effect_of}
use Rattle.channel.specs.View.{key_at}
use Rattle.channel.specs.declared.receiver.Receiver.{Receiver}
use Rattle.numbers.specs.Contract.{width_of, seen_by, sound_window, after}
use Rattle.numbers.specs.declared.window.Window.{Window}
use Rattle.record.specs.Setting.{rule_of}
use Rattle.record.specs.declared.setting.Setting.{Setting}
use Rattle.promises.proofs.Passed.{PlaceIn, settle_passed}
use Rattle.promises.proofs.Good.{Good, good_parts}
use Rattle.promises.proofs.Refused.{refused_zeros, refused_keeps, offer_plain, gaps_plain, change_plain, drop_plain}
use Rattle.promises.specs.Marks.{Marked}
use Rattle.promises.specs.Marks.{MarksJust}

window_marks : (s : Setting) (w : Window) (n k : ℕ) → sound_window (rule_of s) w ≡ true → n < s.limit → w.next - n ≤ width_of (rule_of s)
    → seen_by (after (rule_of s) w n) k ≡ (leb (after (rule_of s) w n).next (k + width_of (rule_of s)) && (eqb k n || seen_by w k))
window_marks s w n k S l y = seen_after (rule_of s) w S n k l (omega arith)

marks_slot : (r : Receiver) (slot n : ℕ) (b : Bool) → eqb slot 0 ≡ b → Good r → n < r.setting.limit
    → (key_at (look r) slot).next - n ≤ width_of (rule_of r.setting) → MarksJust r (change r (marking slot n)) slot n
unfolding change look
marks_slot r slot n true e G l y =
    record {
      setting = refl;
      count = refl;
      held = refl;
      other_old = λ h. rw e;
      other_current = λ h. rw e (absurd (true_not_false e h));
      iv = rw e;
      next = rw e (next_after (rule_of r.setting) r.current.window n l);
      seen = λ k. rw e (window_marks r.setting r.current.window n k G.sound_current l (rw e at y));
    }
marks_slot r slot n false e G l y =
    record {
      setting = refl;
      count = refl;
      held = refl;
      other_old = λ h. absurd (true_not_false h e);
      other_current = λ h. rw e;
      iv = rw e;
      next = rw e (next_after (rule_of r.setting) r.old.window n l);
      seen = λ k. rw e (window_marks r.setting r.old.window n k G.sound_old l (rw e at y));
    }

marks_view : (r : Receiver) (slot n : ℕ) → (look r).bad ≡ false → PlaceIn (look r) slot n → MarksJust r (change r (marking slot n)) slot n
unfolding look
marks_view r slot n g P = marks_slot r slot n (eqb slot 0) refl (good_parts r g) P.spare P.young

-- an authentic record's Settle, whether it answers 0 or is refused, marks its number and just that
pub marks_just : (r : Receiver) (a : List ℕ) (slot count n : ℕ) (passed : Bool) (plain : List ℕ)
    → authentic (answer_to r (settle a slot count n passed plain)).code ≡ true
    → MarksJust r (state_after r (settle a slot count n passed plain)) slot n
unfolding answer_to state_after effect_of
marks_just r a slot count n passed plain h =
    let P = settle_passed (look r) a slot count n passed plain h in
    rw (effect_is (look r) (settle a slot count n passed plain), h)
    (marks_view r slot n P.in_slot.good P.place)

-- ---- the refusals that mark

-- Inner alone marks
pub inner_alone : (k : ℕ) → (Refusal.marks k ≡ true) ↔ (k ≡ Refusal.inner)
unfolding Refusal.marks
inner_alone k = (eqb-true k Refusal.inner, eq-eqb k Refusal.inner)

marked_authentic : (k : ℕ) → Refusal.marks k ≡ true → authentic k ≡ true
unfolding authentic
marked_authentic k m = or_more (eqb k 0) _ m

-- a call that is refused with a refusal that marks is a Settle, and its number is marked, and just that
pub marks_one : (r : Receiver) (c : Call) → Refusal.marks (answer_to r c).code ≡ true → Marked r c
marks_one r (offer rec slot) m = true_not_false m (offer_plain r rec slot)
marks_one r (settle rec slot count n passed plain) m = marks_just r rec slot count n passed plain (marked_authentic _ m)
marks_one r (gaps slot) m = true_not_false m (gaps_plain r slot)
marks_one r (change_key iv) m = true_not_false m (change_plain r iv)
marks_one r drop_old m = true_not_false m (drop_plain r)

-- a call that answers Inner answers that and zeros, and is a Settle that marks its number, and just that
pub inner_marks : (r : Receiver) (c : Call) → (answer_to r c).code ≡ Refusal.inner → (answer_to r c ≡ only Refusal.inner) × Marked r c
inner_marks r c e =
    (refused_zeros r c (λ z. omega arith) ∙ ap only e, marks_one r c ((inner_alone _).1 e))

-- any other refusal returns the state given
pub others_keep : (r : Receiver) (c : Call) → (answer_to r c).code ≢ 0 → (answer_to r c).code ≢ Refusal.inner → state_after r c ≡ r
unfolding Refusal.marks
others_keep r c h n = refused_keeps r c h (ne_eqb _ Refusal.inner n)

-- a refusal with which the state changed is Inner, and marked its number, and just that
pub changed_marks : (r : Receiver) (c : Call) → (answer_to r c).code ≢ 0 → state_after r c ≢ r → ((answer_to r c).code ≡ Refusal.inner) × Marked r c
changed_marks r c h n = go (Refusal.marks (answer_to r c).code) refl
  where
    go : (b : Bool) → Refusal.marks (answer_to r c).code ≡ b → ((answer_to r c).code ≡ Refusal.inner) × Marked r c
    go true m = ((inner_alone _).0 m, marks_one r c m)
    go false m = absurd (n (refused_keeps r c h m))

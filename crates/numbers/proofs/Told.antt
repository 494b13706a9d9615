-- The tests of one key tell page 01's conditions: the number rows their reasons, and `sound_window` the rule of a window.
-- Assumes nothing.
use Prim.Native.Nat.{ℕ, ◌≤◌, ◌<◌, ◌^◌, ◌-◌, min}
use mathlib.Core.Bool.{Bool, true, false, not}
use mathlib.Core.Logic.{◌⊎◌, inl, inr}
use mathlib.Core.Path.{◌≡◌, refl, ap, ◌∙◌}
use native.Mathlib.Nat.{eq-zero-or-pos}
use native.Mathlib.Omega.{arith}
use native.Mathlib.Decide.{dec_le}
use lib.Dec.{eqb}
use borrow.Author.Tests.{not-true, not-false, eq-eqb, ne_eqb}
use Rattle.answers.specs.Reasons.{Decided, Tells, Told}
use Rattle.answers.proofs.Tests.{true_not_false, tells_true, tells_lt, tells_le}
use Rattle.answers.proofs.Reasons.{told_row, decided}
use Rattle.numbers.specs.declared.window.Rule.{Rule}
use Rattle.numbers.specs.declared.window.Window.{Window}
use Rattle.numbers.specs.Number.{nearest, number_rows}
use Rattle.numbers.specs.Word.{bit, word_of}
use Rattle.numbers.specs.Window.{sound}
use Rattle.numbers.specs.Contract.{width_of, empty_window, is_empty, seen_by, sound_window, placed}
use Rattle.numbers.specs.Reasons.{number_reasons, Unsound}
use Rattle.numbers.proofs.Bits.{high_bit, fits_or_bit}
use Rattle.numbers.proofs.Laws.{Typed, placed_answer, empty_is, empty_only}
use Rattle.numbers.proofs.Marking.{Sound, sound_parts, sound_whole, or_true}

-- each number row tells its reason
pub number_told : (w l e : ℕ) (seen : ℕ → Bool) (n : ℕ) → Told (number_rows w l e seen n) (number_reasons w l e seen n)
unfolding number_rows
number_told w l e seen n =
    (told_row (tells_le l n), (told_row (tells_lt w (e - n)), (told_row (tells_true (seen n)), tt)))

-- so the answer to a record's low bits is decided by the reasons of the number meant
pub placed_decided : (r : Rule) (s : Window) (low : ℕ)
    → Decided (placed r s low).answer (number_reasons (width_of r) r.limit s.next (seen_by s) (nearest s.next low))
placed_decided r s low =
    decided (number_rows (width_of r) r.limit s.next (seen_by s) (nearest s.next low)) _
    (number_told (width_of r) r.limit s.next (seen_by s) (nearest s.next low)) _ (placed_answer r s low)

-- ---- the rule of a window

module _ (w l e m : ℕ) where
  abbrev Stray : Type 0
  Stray = (i : ℕ) × (min w e ≤ i) × (bit m i ≡ true)

  abbrev Broken : Type 0
  Broken = (l < e) ⊎ Stray ⊎ ((0 < e) × (bit m 0 ≡ false))

  whole_not : {A : Type 0} → sound w l e m ≡ false → Sound w l e m → A
  whole_not h s = absurd (true_not_false (sound_whole w l e m s) h)

  broken : sound w l e m ≡ false → Broken
  broken h = go (dec_le e l) (fits_or_bit (min w e) m) (eq-zero-or-pos e) (bit m 0) refl
    where
      go : Dec (e ≤ l) → (m < 2 ^ min w e) ⊎ Stray → (e ≡ 0) ⊎ (0 < e) → (b : Bool) → bit m 0 ≡ b → Broken
      go (no p) f z b q = inl (omega arith)
      go (yes p) (inr x) z b q = inr (inl x)
      go (yes p) (inl f) (inl z) b q = whole_not h (record { limit = p; word = f; top = simp (eq-eqb e 0 z) })
      go (yes p) (inl f) (inr z) true q = whole_not h (record { limit = p; word = f; top = simp q (or_true (eqb e 0)) })
      go (yes p) (inl f) (inr z) false q = inr (inr (z, q))

  unbroken : Sound w l e m → Broken → ⊥
  unbroken s (inl p) = let q = s.limit in omega arith
  unbroken s (inr (inl x)) = true_not_false x.2 (high_bit (min w e) m x.0 s.word x.1)
  unbroken s (inr (inr x)) =
      let z : 0 < e = x.0 in
      true_not_false (simp (ne_eqb e 0 (omega arith)) at s.top) x.1

  sound_told : Tells (not (sound w l e m)) Broken
  sound_told = record {
    holds = λ h. broken (not-true (sound w l e m) h);
    fails = λ h. unbroken (sound_parts w l e m (not-false (sound w l e m) h));
  }

-- a window is not sound exactly where page 01 calls it a bad state
pub unsound_told : (r : Rule) (s : Window) → Tells (not (sound_window r s)) (Unsound r s)
unfolding sound_window
unsound_told r s = sound_told (width_of r) r.limit s.next (word_of s.marks)

-- a window is empty exactly where it is the empty window
pub empty_told : (s : Window) → Typed s.marks → Tells (is_empty s) (s ≡ empty_window)
empty_told s f = record { holds = empty_only s f; fails = λ h p. true_not_false (ap is_empty p ∙ empty_is) h }

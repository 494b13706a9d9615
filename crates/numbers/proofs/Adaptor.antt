-- Between the declared rule and window and the numbers that the definitions of `Number` and `Window` speak of.
-- Assumes nothing.
use Prim.Native.Nat.{ℕ, ◌+◌, ◌-◌, ◌^◌, ◌≤◌, ◌<◌, max}
use mathlib.Core.Path.{◌≡◌, refl, sym, ap, ◌∙◌}
use native.Mathlib.Nat.{mod-lt, lt_of_lt_of_le}
use native.Mathlib.Omega.{arith}
use native.Mathlib.Decide.{dec_le, dec_lt}
use lib.Pow.{pow_pos, pow_mono}
use Rattle.numbers.specs.declared.window.Rule.{Rule}
use Rattle.numbers.specs.declared.window.Window.{Window}
use Rattle.numbers.specs.Word.{most, word_of, marks_of}
use Rattle.numbers.specs.Window.{mark_next, mark_word}
use Rattle.numbers.specs.Contract.{width_of, window_of, after}
use Rattle.numbers.proofs.Bits.{set_lt}
use Rattle.numbers.proofs.Cases.{next_is, mark_spent, mark_ahead, mark_old, mark_within}
use Rattle.numbers.proofs.Word.{Typed, word_marks, marks_word}

-- ---- the rule's width

module _ (r : Rule) where
  -- a width of nothing acts as 1
  pub width_pos : 0 < width_of r
  unfolding width_of
  width_pos = omega arith

  -- no width is more than the word has
  pub width_le : width_of r ≤ most
  unfolding width_of
  width_le = omega arith

  -- every number that the window remembers is found by its low 16 bits: the number rule finds an old number to 32768 below E
  pub width_half : width_of r ≤ 32768
  width_half = omega (arith, width_le)

  -- a width from 1 to what the word has is taken as it is
  pub width_kept : 0 < r.width → r.width ≤ most → width_of r ≡ r.width
  unfolding width_of
  width_kept h k = omega arith

-- ---- a window and its word

-- the word of a window that is made of numbers
pub word_of_lem : (e m : ℕ) → m < 2 ^ most → word_of (window_of e m).marks ≡ m
unfolding window_of
word_of_lem e m h = word_marks m h

-- what fits the rule's width fits the word
pub word_fits : (r : Rule) (m : ℕ) → m < 2 ^ width_of r → m < 2 ^ most
word_fits r m h = lt_of_lt_of_le h (pow_mono (width_le r))

-- a window is made of its two numbers
pub window_of_lem : (s : Window) → Typed s.marks → {e m : ℕ} → s.next ≡ e → word_of s.marks ≡ m → s ≡ window_of e m
unfolding window_of
window_of_lem s f {e} {m} p q i = record { next = p i; marks = t i }
  where
    t : s.marks ≡ marks_of m
    t = sym (marks_word s.marks f) ∙ ap marks_of q

-- ---- what marking gives

module _ (r : Rule) (s : Window) (n : ℕ) where
  abbrev word : ℕ
  word = mark_word (width_of r) r.limit s.next (word_of s.marks) n

  -- the word stays one of its type as n is marked
  pub marked_lt : word_of s.marks < 2 ^ most → word < 2 ^ most
  marked_lt h = go (dec_lt n r.limit) (dec_le s.next n) (dec_lt (s.next - 1 - n) (width_of r))
    where
      go : Dec (n < r.limit) → Dec (s.next ≤ n) → Dec (s.next - 1 - n < width_of r) → word < 2 ^ most
      go (no p) d f = rw (mark_spent (width_of r) r.limit s.next (word_of s.marks) n (omega arith)).1 h
      go (yes p) (yes q) f =
          rw (mark_ahead (width_of r) r.limit s.next (word_of s.marks) n p q).1
          (set_lt most _ 0 (lt_of_lt_of_le (mod-lt _ (pow_pos (width_of r))) (pow_mono (width_le r))) (omega arith))
      go (yes p) (no q) (yes f) =
          rw (mark_within (width_of r) r.limit s.next (word_of s.marks) n p (omega arith) f).1
          (set_lt most _ _ h (omega (arith, width_le r)))
      go (yes p) (no q) (no f) =
          rw (mark_old (width_of r) r.limit s.next (word_of s.marks) n p (omega arith) (omega arith)).1 h

  -- the word after n is marked
  pub after_word : word_of s.marks < 2 ^ most → word_of (after r s n).marks ≡ word
  unfolding after
  after_word h = word_of_lem _ word (marked_lt h)

  -- the next number after n is marked, by the definition
  pub after_next : (after r s n).next ≡ mark_next r.limit s.next n
  unfolding after window_of
  after_next = refl

  -- the next number after n is marked
  pub next_after : n < r.limit → (after r s n).next ≡ max s.next (n + 1)
  next_after h = after_next ∙ next_is (width_of r) r.limit s.next (word_of s.marks) n h

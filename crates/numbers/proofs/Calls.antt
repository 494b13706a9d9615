-- What each call answers, case by case as the code tells them apart. A premise is what a test or a callee's contract says; what the word is
-- made of is not asked.
-- Assumes nothing.
use Prim.Native.Nat.{ℕ, ◌+◌, ◌-◌, ◌*◌, ◌%◌, ◌^◌, ◌≤◌, ◌<◌, min}
use mathlib.Core.Path.{◌≡◌, sym, ap, ap₂, ◌∙◌}
use mathlib.Core.Bool.{Bool, true, false, cond, ◌&&◌, ◌||◌}
use native.Mathlib.Nat.{mod-lt, mod-le, mod-eq_of_lt, lt_of_le_of_lt, lt_of_lt_of_le}
use native.Mathlib.Omega.{arith}
use lib.Dec.{leb, eqb}
use lib.Pow.{pow_pos, pow_mono}
use lib.Count.{ones}
use Rattle.answers.specs.Refusal as Refusal
use Rattle.answers.specs.Table.{given}
use Rattle.numbers.specs.declared.marks.Marks.{Marks}
use Rattle.numbers.specs.declared.window.Rule.{Rule}
use Rattle.numbers.specs.declared.window.Window.{Window}
use Rattle.numbers.specs.Number.{nearest}
use Rattle.numbers.specs.Word.{most, bit, set_bit, word_of, marks_of}
use Rattle.numbers.specs.Window.{verdict, mark_next, mark_word, sound}
use Rattle.numbers.specs.Contract.{Placed, width_of, window_of, empty_window, no_place, seen_by, judged, placed, after, is_empty, sound_window, gaps_of}
use Rattle.numbers.proofs.Bits.{mod_within, set_lt}
use Rattle.numbers.proofs.Cases.{verdict_spent, verdict_ahead, verdict_old, verdict_bit, mark_spent, mark_ahead, mark_old, mark_within, below_test}
use Rattle.numbers.proofs.Gaps.{gaps_ones, low_ones}
use Rattle.numbers.proofs.Word.{Typed, typed_of, word_lt, word_marks, marks_word, same_is}
use Rattle.std.specs.Prelude.{nat_eq}
use Rattle.std.specs.Cmp.Lexicographic.{pointwise}
use Rattle.numbers.proofs.Adaptor.{width_le}

abbrev taken : ℕ → Placed
taken n = record { answer = 0; number = n }

abbrev window : ℕ → Marks → Window
window e m = record { next = e; marks = m }

-- ---- empty

-- the window that `empty` makes
pub empty_of : {m : Marks} → m ≡ marks_of 0 → window 0 m ≡ empty_window
unfolding window_of
empty_of e i = window 0 (e i)

module _ (r : Rule) (s : Window) (n : ℕ) where
  -- ---- judge

  judged_by : {v : ℕ} → verdict (width_of r) r.limit s.next (word_of s.marks) n ≡ v → given v (taken n) no_place ≡ judged r s n
  unfolding judged verdict seen_by
  judged_by e = sym (ap (λ (v : ℕ). given v (taken n) no_place) e)

  -- at the limit or past it
  pub judged_spent : r.limit ≤ n → no_place Refusal.spent ≡ judged r s n
  judged_spent h = judged_by (verdict_spent _ _ _ _ _ h)

  -- past all that was marked
  pub judged_ahead : n < r.limit → s.next ≤ n → taken n ≡ judged r s n
  judged_ahead h k = judged_by (verdict_ahead _ _ _ _ _ h k)

  -- older than the width
  pub judged_old : {w : ℕ} → n < r.limit → n < s.next → w ≡ width_of r → w ≤ s.next - 1 - n → no_place Refusal.old ≡ judged r s n
  judged_old h k e o = judged_by (verdict_old _ _ _ _ _ h k (omega arith))

  module _ {w : ℕ} {b : Bool} (h : n < r.limit) (k : n < s.next) (e : w ≡ width_of r) (o : s.next - 1 - n < w)
      (t : b ≡ bit (word_of s.marks) (s.next - 1 - n)) where
    by_bit : {c : Bool} → b ≡ c → given (cond c Refusal.repeat 0) (taken n) no_place ≡ judged r s n
    by_bit q = judged_by (verdict_bit _ _ _ _ _ h k (omega arith) ∙ ap (λ (x : Bool). cond x Refusal.repeat 0) (sym t ∙ q))

    -- within the width and marked
    pub judged_repeat : b ≡ true → no_place Refusal.repeat ≡ judged r s n
    judged_repeat q = by_bit q

    -- within the width and not marked
    pub judged_new : b ≡ false → taken n ≡ judged r s n
    judged_new q = by_bit q

  -- ---- mark

  after_is : {e : ℕ} {m : Marks} {v : ℕ}
      → (mark_next r.limit s.next n ≡ e) × (mark_word (width_of r) r.limit s.next (word_of s.marks) n ≡ v) → m ≡ marks_of v → window e m ≡ after r s n
  unfolding after window_of
  after_is p q i = window (sym p.0 i) ((q ∙ sym (ap marks_of p.1)) i)

  -- at the limit or past it nothing changes
  pub after_spent : Typed s.marks → r.limit ≤ n → s ≡ after r s n
  after_spent f h = after_is (mark_spent _ _ _ _ _ h) (sym (marks_word s.marks f))

  -- older than the width nothing changes
  pub after_old : {w : ℕ} → Typed s.marks → n < r.limit → n < s.next → w ≡ width_of r → w ≤ s.next - 1 - n → s ≡ after r s n
  after_old f h k e o = after_is (mark_old _ _ _ _ _ h k (omega arith)) (sym (marks_word s.marks f))

  -- within the width one bit is set
  pub after_within : {w : ℕ} {x : Marks} → Typed s.marks → n < r.limit → n < s.next → w ≡ width_of r → s.next - 1 - n < w
      → x ≡ marks_of (set_bit (word_of s.marks) (s.next - 1 - n) % 2 ^ most) → window s.next x ≡ after r s n
  after_within f h k e o t =
      let z = width_le r in
      after_is (mark_within _ _ _ _ _ h k (omega arith))
      (t ∙ ap marks_of (mod-eq_of_lt (set_lt most (word_of s.marks) (s.next - 1 - n) (word_lt s.marks f) (omega arith))))

  -- past all that was marked the word is moved up, cut to the width, and bit 0 is set
  pub after_ahead : {w : ℕ} {u v x : Marks} → n < r.limit → s.next ≤ n → w ≡ width_of r
      → u ≡ marks_of (word_of s.marks * 2 ^ (n + 1 - s.next) % 2 ^ most) → v ≡ marks_of (word_of u % 2 ^ w)
      → x ≡ marks_of (set_bit (word_of v) 0 % 2 ^ most) → window (n + 1) x ≡ after r s n
  after_ahead {w} {u} {v} h k e p q t = after_is (mark_ahead _ _ _ _ _ h k) (t ∙ ap marks_of set)
    where
      m : ℕ
      m = word_of s.marks * 2 ^ (n + 1 - s.next)

      up : word_of u ≡ m % 2 ^ most
      up = ap word_of p ∙ word_marks _ (mod-lt m (pow_pos most))

      low : m % 2 ^ width_of r < 2 ^ most
      low = lt_of_lt_of_le (mod-lt m (pow_pos (width_of r))) (pow_mono (width_le r))

      cut : word_of u % 2 ^ w ≡ m % 2 ^ width_of r
      cut = ap₂ (λ (x y : ℕ). x % 2 ^ y) up e ∙ mod_within most (width_of r) m (width_le r)

      kept : word_of v ≡ m % 2 ^ width_of r
      kept = ap word_of (q ∙ ap marks_of cut) ∙ word_marks _ low

      set : set_bit (word_of v) 0 % 2 ^ most ≡ set_bit (m % 2 ^ width_of r) 0
      set = ap (λ (x : ℕ). set_bit x 0 % 2 ^ most) kept ∙ mod-eq_of_lt (set_lt most _ 0 low (omega arith))

-- ---- place

-- a number that is beyond every limit
pub placed_spent : (r : Rule) (s : Window) (low : ℕ) → r.limit ≤ nearest s.next low → no_place Refusal.spent ≡ placed r s low
unfolding placed
placed_spent r s low h = judged_spent r s (nearest s.next low) h

-- a number that is the nearest
pub placed_at : (r : Rule) (s : Window) (low : ℕ) {n : ℕ} {p : Placed} → p ≡ judged r s n → n ≡ nearest s.next low → p ≡ placed r s low
unfolding placed
placed_at r s low p h = p ∙ ap (judged r s) h

-- ---- is_empty

-- the test of `is_empty`
pub empty_test : (s : Window) {e : Window} → Typed s.marks → e ≡ empty_window
    → (eqb s.next e.next && pointwise nat_eq s.marks.words e.marks.words) ≡ is_empty s
unfolding is_empty window_of
empty_test s f q =
    ap (λ (e : Window). eqb s.next e.next && pointwise nat_eq s.marks.words e.marks.words) q
    ∙ ap (λ (x : Bool). eqb s.next 0 && x)
    (same_is s.marks (marks_of 0) f (typed_of 0 (pow_pos most)) ∙ ap (eqb (word_of s.marks)) (word_marks 0 (pow_pos most)))

-- ---- sound and gaps: k is how many numbers the window holds, low its word cut to them

module _ (r : Rule) (s : Window) {k : ℕ} {low : Marks} (f : Typed s.marks) (e : k ≡ min (width_of r) s.next) (c : low ≡ marks_of (word_of s.marks % 2 ^ k)) where
  low_is : word_of low ≡ word_of s.marks % 2 ^ k
  low_is = ap word_of c ∙ word_marks _ (lt_of_le_of_lt (mod-le (word_of s.marks) (2 ^ k)) (word_lt s.marks f))

  -- the tests of `sound`
  pub sound_test : {b t : Bool} → b ≡ eqb (word_of s.marks) (word_of low) → t ≡ bit (word_of s.marks) 0
      → (leb s.next r.limit && b && (eqb s.next 0 || t)) ≡ sound_window r s
  unfolding sound_window sound
  sound_test p q =
      ap₂ (λ (x y : Bool). leb s.next r.limit && x && (eqb s.next 0 || y))
      (p ∙ ap (eqb (word_of s.marks)) (low_is ∙ ap (λ (x : ℕ). word_of s.marks % 2 ^ x) e) ∙ below_test (word_of s.marks) (min (width_of r) s.next)) q

  -- no more are marked than are held
  pub count_le : {o : ℕ} → o ≡ ones (word_of low) → o ≤ k
  count_le p = omega (arith, p ∙ ap ones low_is, low_ones k (word_of s.marks))

  -- what is held less what is marked
  pub gaps_are : {o : ℕ} → o ≡ ones (word_of low) → k - o ≡ gaps_of r s
  unfolding gaps_of
  gaps_are p = ap (λ (x : ℕ). k - x) (p ∙ ap ones low_is) ∙ gaps_ones (width_of r) s.next (word_of s.marks) e

-- how many numbers a window holds fits a u32
pub held_lt : (r : Rule) (n : ℕ) {k : ℕ} → k ≡ min (width_of r) n → k < 2 ^ 32
held_lt r n e = omega (arith, width_le r)

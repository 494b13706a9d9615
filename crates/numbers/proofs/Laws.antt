-- What the crates above cite: the laws of a rule and a declared window.
-- Assumes nothing.
use Prim.Native.Nat.{ℕ, ◌+◌, ◌%◌, ◌^◌, ◌≤◌, ◌<◌}
use mathlib.Core.Path.{◌≡◌, refl, sym, ap, ◌∙◌}
use mathlib.Core.Bool.{true, false, ◌&&◌, ◌||◌, and-eq-true_iff}
use mathlib.Core.List.{List, [], ◌∷◌}
use mathlib.Core.Logic.{inl}
use native.Mathlib.Omega.{arith}
use lib.Dec.{leb, eqb}
use lib.Pow.{pow_pos}
use borrow.Author.Tests.{eqb-true}
use Rattle.answers.specs.Refusal as Refusal
use Rattle.answers.specs.Table.{first, given}
use Rattle.answers.proofs.Given.{why_is, ok_is}
use Rattle.numbers.specs.declared.window.Rule.{Rule}
use Rattle.numbers.specs.declared.window.Window.{Window}
use Rattle.numbers.specs.Number.{nearest, number_rows, gap_count}
use Rattle.numbers.specs.Word.{most, word_of}
use Rattle.numbers.specs.Window.{verdict, mark_next, mark_word, gaps}
use Rattle.numbers.specs.Contract.{Placed, width_of, window_of, empty_window, is_empty, seen_by, sound_window, no_place, judged, placed, after, gaps_of}
use Rattle.numbers.specs.Memory.{member, plain_verdict, plain_gaps, Remembers, Below, after_all}
pub use Rattle.numbers.proofs.Word.{Typed, made, word_at, four, typed_four, four_same, marks_four, none_is, zeros_none, none_zeros, word_lt}
pub use Rattle.numbers.proofs.Adaptor.{width_pos, width_le, width_half, width_kept, next_after}
pub use Rattle.numbers.proofs.Cases.{spent_first, old_first, seen_first, first_agree}
pub use Rattle.numbers.proofs.Gaps.{gaps_agree}
pub use Rattle.numbers.proofs.Memory.{member_below}
pub use Rattle.numbers.proofs.Nearest.{nearest_low, nearest_again, nearest_cut, near_exactly}
use Rattle.numbers.proofs.Word.{typed_of}
use Rattle.numbers.proofs.Adaptor.{word_of_lem, word_fits, window_of_lem, marked_lt, after_next, after_word}
use Rattle.numbers.proofs.Cases.{next_is}
use Rattle.numbers.proofs.Marking.{Sound, sound_parts, word_fits_width, marked_past, marked_below, marked_within, mark_law, mark_sound, mark_repeat, verdict_zero}
use Rattle.numbers.proofs.Memory.{shows_empty, shows_mark, shows_verdict, shows_gaps, shows_one, shows_sound, sound_shows}

-- every number of the window, and every one less than 32768 past it, is found from its low 16 bits
pub found : (r : Rule) (e n : ℕ) → e ≤ n + width_of r → n ≤ e + 32767 → nearest e (n % 65536) ≡ n
found r e n p q = (near_exactly e n).1 (omega (arith, width_half r), inl q)

-- the gap count is that of the numbers that the window has seen
pub gaps_seen : (r : Rule) (s : Window) → gaps_of r s ≡ gap_count (width_of r) s.next (seen_by s)
unfolding gaps_of gaps seen_by
gaps_seen r s = refl

-- ---- what is answered of a number

abbrev taken : ℕ → Placed
taken n = record { answer = 0; number = n }

module _ (r : Rule) (s : Window) (n : ℕ) where
  abbrev why : ℕ
  why = first (number_rows (width_of r) r.limit s.next (seen_by s) n)

  judged_given : judged r s n ≡ given why (taken n) no_place
  unfolding judged
  judged_given = refl

  -- the answer is what the number rows say
  pub judged_answer : (judged r s n).answer ≡ first (number_rows (width_of r) r.limit s.next (seen_by s) n)
  judged_answer = sym (why_is (λ (p : Placed). p.answer) (taken n) no_place refl (λ k. refl) (judged r s n) why judged_given)

  -- a number that is taken is answered
  pub judged_number : (judged r s n).answer ≡ 0 → (judged r s n).number ≡ n
  judged_number h =
      ap (λ (p : Placed). p.number) (ok_is (λ (p : Placed). p.answer) (taken n) no_place refl (λ k. refl) (judged r s n) why judged_given h)

module _ (r : Rule) (s : Window) (low : ℕ) where
  -- the answer is what the number rows say of the number meant
  pub placed_answer : (placed r s low).answer ≡ first (number_rows (width_of r) r.limit s.next (seen_by s) (nearest s.next low))
  unfolding placed
  placed_answer = judged_answer r s (nearest s.next low)

  -- a number that is taken is the number meant
  pub placed_number : (placed r s low).answer ≡ 0 → (placed r s low).number ≡ nearest s.next low
  unfolding placed
  placed_number h = judged_number r s (nearest s.next low) h

placed_verdict : (r : Rule) (s : Window) (low : ℕ)
    → (placed r s low).answer ≡ verdict (width_of r) r.limit s.next (word_of s.marks) (nearest s.next low)
unfolding seen_by verdict
placed_verdict r s low = placed_answer r s low

again_repeat : (w l e m low : ℕ) → 0 < w → m < 2 ^ w → low < 65536 → verdict w l e m (nearest e low) ≡ 0
    → verdict w l (mark_next l e (nearest e low)) (mark_word w l e m (nearest e low)) (nearest (mark_next l e (nearest e low)) low) ≡ Refusal.repeat
again_repeat w l e m low hw hm hlow a =
    let n = nearest e low in
    let z = verdict_zero w l e m n a in
    ap (verdict w l (mark_next l e n) (mark_word w l e m n)) (ap (λ (x : ℕ). nearest x low) (next_is w l e m n z.0) ∙ nearest_again e low hlow)
    ∙ mark_repeat w l e m n hw hm z.0 z.1

-- what is answered by a window that is made of numbers
pub placed_of : (r : Rule) (e m low : ℕ) → m < 2 ^ most
    → placed r (window_of e m) low ≡ given (verdict (width_of r) r.limit e m (nearest e low)) (taken (nearest e low)) no_place
unfolding placed judged seen_by verdict window_of
placed_of r e m low h = rw (word_of_lem e m h) refl

-- ---- a sound window

module _ (r : Rule) (s : Window) (h : sound_window r s ≡ true) where
  parts : Sound (width_of r) r.limit s.next (word_of s.marks)
  unfolding sound_window
  parts = sound_parts _ _ _ _ h

  -- the next number is within the limit
  pub sound_next : s.next ≤ r.limit
  sound_next = parts.limit

  -- the word fits the width
  pub sound_word : word_of s.marks < 2 ^ width_of r
  sound_word = word_fits_width (width_of r) s.next (word_of s.marks) parts.word

  -- and the word of the window
  pub sound_fits : word_of s.marks < 2 ^ most
  sound_fits = word_fits r (word_of s.marks) sound_word

  -- marking keeps a window sound
  pub sound_after : (n : ℕ) → sound_window r (after r s n) ≡ true
  unfolding sound_window
  sound_after n =
      rw (after_word r s n sound_fits, after_next r s n) (mark_sound (width_of r) r.limit s.next (word_of s.marks) n (width_pos r) h)

  -- which numbers are marked after n is
  pub seen_after : (n k : ℕ) → n < r.limit → s.next ≤ n + width_of r
      → seen_by (after r s n) k ≡ (leb (after r s n).next (k + width_of r) && (eqb k n || seen_by s k))
  unfolding seen_by
  seen_after n k p q =
      rw (after_word r s n sound_fits, after_next r s n) (mark_law (width_of r) r.limit s.next (word_of s.marks) n k (width_pos r) sound_word p q)

  -- what is marked lies within the width
  pub seen_within : (k : ℕ) → seen_by s k ≡ true → s.next ≤ k + width_of r
  unfolding seen_by
  seen_within k p = marked_within (width_of r) s.next (word_of s.marks) k sound_word p

  -- what was placed and marked is Repeat when it is placed again
  pub placed_again : (low : ℕ) → low < 65536 → (placed r s low).answer ≡ 0
      → (placed r (after r s (placed r s low).number) low).answer ≡ Refusal.repeat
  placed_again low hlow a =
      let n = nearest s.next low in
      rw (placed_number r s low a) (placed_verdict r (after r s n) low ∙ rw (after_word r s n sound_fits, after_next r s n)
      (again_repeat (width_of r) r.limit s.next (word_of s.marks) low (width_pos r) sound_word hlow (sym (placed_verdict r s low) ∙ a)))

-- what is marked lies below the next number
pub seen_below : (s : Window) (k : ℕ) → seen_by s k ≡ true → k < s.next
unfolding seen_by
seen_below s k h = marked_below s.next (word_of s.marks) k h

-- ---- an empty window

-- the empty window is empty
pub empty_is : is_empty empty_window ≡ true
unfolding is_empty window_of
empty_is = simp (word_of_lem 0 0 (pow_pos most))

-- only the empty window is empty
pub empty_only : (s : Window) → Typed s.marks → is_empty s ≡ true → s ≡ empty_window
unfolding is_empty
empty_only s f h =
    let p = (and-eq-true_iff (eqb s.next 0) (eqb (word_of s.marks) 0)).0 h in
    window_of_lem s f (eqb-true s.next 0 p.0) (eqb-true (word_of s.marks) 0 p.1)

-- nothing is marked in it
pub seen_none : (k : ℕ) → seen_by empty_window k ≡ false
unfolding seen_by window_of
seen_none k = marked_past 0 _ k (omega arith)

-- ---- what the types say is kept

-- the empty window's word is one of its type
pub typed_none : Typed empty_window.marks
unfolding window_of
typed_none = typed_of 0 (pow_pos most)

-- and so is the word after a number is marked
pub typed_after : (r : Rule) (s : Window) (n : ℕ) → word_of s.marks < 2 ^ most → Typed (after r s n).marks
unfolding after window_of
typed_after r s n h = typed_of _ (marked_lt r s n h)

-- ---- a window and a plain memory

-- the empty window shows the empty list
pub remembers_none : (r : Rule) → Remembers r empty_window []
unfolding window_of
remembers_none r = rw (word_of_lem 0 0 (pow_pos most)) (shows_empty (width_of r))

module _ (r : Rule) (s : Window) (xs : List ℕ) (m : Remembers r s xs) where
  word : word_of s.marks < 2 ^ most
  word = word_fits r (word_of s.marks) (word_fits_width (width_of r) s.next (word_of s.marks) m.word)

  -- a number that is marked joins the list
  pub remembers_after : (n : ℕ) → n < r.limit → Remembers r (after r s n) (n ∷ xs)
  remembers_after n h =
      rw (after_word r s n word, after_next r s n) (shows_mark (width_of r) r.limit s.next (word_of s.marks) n xs (width_pos r) h m)

  -- window and list refuse alike
  pub remembers_judged : (n : ℕ) → judged r s n ≡ given (plain_verdict (width_of r) r.limit xs n) (taken n) no_place
  unfolding judged seen_by verdict
  remembers_judged n =
      ap (λ (v : ℕ). given v (taken n) no_place) (shows_verdict (width_of r) r.limit s.next (word_of s.marks) n xs m)

  -- window and list have the same gaps
  pub remembers_gaps : gaps_of r s ≡ plain_gaps (width_of r) xs
  unfolding gaps_of
  remembers_gaps = shows_gaps (width_of r) s.next (word_of s.marks) xs m

  -- a window that shows a list of usable numbers is sound
  pub remembers_sound : s.next ≤ r.limit → sound_window r s ≡ true
  unfolding sound_window
  remembers_sound h = shows_sound (width_of r) r.limit s.next (word_of s.marks) xs h (width_pos r) m

  -- the numbers determine the window
  pub remembers_one : (t : Window) (ys : List ℕ) → Typed s.marks → Typed t.marks → ((k : ℕ) → member k xs ≡ member k ys) → Remembers r t ys → s ≡ t
  remembers_one t ys f g h o =
      let p = shows_one (width_of r) s.next (word_of s.marks) t.next (word_of t.marks) xs ys h m o in
      window_of_lem s f p.0 p.1 ∙ sym (window_of_lem t g refl refl)

-- the empty window is sound
pub sound_none : (r : Rule) → sound_window r empty_window ≡ true
unfolding window_of
sound_none r = remembers_sound r empty_window [] (remembers_none r) (omega arith)

-- so a window that is empty is sound, under every rule
pub empty_sound : (r : Rule) (s : Window) → is_empty s ≡ true → sound_window r s ≡ true
unfolding is_empty sound_window window_of
empty_sound r s h =
    let p = (and-eq-true_iff (eqb s.next 0) (eqb (word_of s.marks) 0)).0 h in
    rw (eqb-true s.next 0 p.0, eqb-true (word_of s.marks) 0 p.1) (simp (word_of_lem 0 0 (pow_pos most)) at (sound_none r))

-- every sound window shows some list of usable numbers
pub sound_remembers : (r : Rule) (s : Window) → sound_window r s ≡ true → (xs : List ℕ) × Below r.limit xs × Remembers r s xs
unfolding sound_window
sound_remembers r s h = sound_shows (width_of r) r.limit s.next (word_of s.marks) (width_pos r) h

-- ---- a run of marks

-- a run keeps the word one of its type
pub typed_all : (r : Rule) (xs : List ℕ) → Typed (after_all r xs).marks
unfolding after_all
typed_all r [] = typed_none
typed_all r (n ∷ xs) = typed_after r (after_all r xs) n (word_lt _ (typed_all r xs))

-- the window after the numbers of a list are marked shows the list
pub remembers_all : (r : Rule) (xs : List ℕ) → Below r.limit xs → Remembers r (after_all r xs) xs
unfolding after_all
remembers_all r [] b = remembers_none r
remembers_all r (n ∷ xs) b = remembers_after r (after_all r xs) xs (remembers_all r xs b.1) n b.0

-- every sound window is reached by marking
pub sound_reached : (r : Rule) (s : Window) → Typed s.marks → sound_window r s ≡ true → (xs : List ℕ) × Below r.limit xs × (s ≡ after_all r xs)
sound_reached r s f h =
    let o = sound_remembers r s h in
    let t = after_all r o.0 in
    (o.0, o.1, remembers_one r s o.0 o.2 t o.0 f (typed_all r o.0) (λ k. refl) (remembers_all r o.0 o.1))

-- and every window that is reached is sound
pub reached_sound : (r : Rule) (xs : List ℕ) → sound_window r (after_all r xs) ≡ true
unfolding after_all
reached_sound r [] = sound_none r
reached_sound r (n ∷ xs) = sound_after r (after_all r xs) (reached_sound r xs) n

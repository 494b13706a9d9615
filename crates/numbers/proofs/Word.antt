-- The window word: what its type says of it, and what each call of `Marks` makes. Here alone it matters what the word is made of.
-- Assumes nothing.
use Prim.Native.Nat.{ℕ, zero, suc, ◌+◌, ◌-◌, ◌*◌, ◌/◌, ◌%◌, ◌^◌, ◌≤◌, ◌<◌, min}
use mathlib.Core.Bool.{Bool, true, false}
use mathlib.Core.List.{List, [], ◌∷◌}
use mathlib.Core.Path.{◌≡◌, refl, sym, ap, ◌∙◌}
use native.Mathlib.Nat.{mod-lt, mod-eq_of_lt, lt_of_lt_of_le, zero-div, add-zero, min-eq_right, le_of_lt}
use native.Mathlib.Omega.{arith}
use borrow.Author.Tests.{eq-eqb, ne_eqb}
use Rattle.std.specs.Prelude.{nat_eq}
use Rattle.std.specs.Cmp.Lexicographic.{pointwise, same_text, other_text}
use lib.Bits.{bit_and, bit_or, and_mask, or_shifted}
use lib.Count.{ones}
use lib.Dec.{eqb, lit<}
use lib.ListN.{length, take, get_or, set, length-set}
use lib.Pow.{pow_pos, pow_mono}
use mir.Syntax.{w64}
use mir.Val.{Fits}
use Rattle.numbers.specs.declared.marks.Marks.{Marks}
use Rattle.numbers.specs.Word.{bit, set_bit, most, joined, split, word_of, marks_of}
use Rattle.numbers.proofs.Bits.{one_shifted, shifted_out, test_bit, high_bit, set_lt, set_out}
use Rattle.numbers.proofs.Words.{Words, joined_lt, joined_split, split_joined, word_bit, word_set, set_words, sum_ones, ones_joined, cut_words, cut_words_lem, cut_joined, up_words, stays, comes, up_words_lem, up_joined, zeros, zeros_words, zeros_joined, take_words, take_joined, move_move}

-- what the type of the word says: it has four words, and each fits
pub record Typed (m : Marks) : Type 0 where
  pub long : length m.words ≡ 4
  pub each : (j : ℕ) → Fits w64 (get_or m.words j 0)

-- the word that is made of these words
abbrev pub made : List ℕ → Marks
made ws = record { words = ws }

-- one of its words
abbrev pub word_at : Marks → ℕ → ℕ
word_at m j = get_or m.words j 0

-- the four of them, the lowest first
abbrev pub four : Marks → List ℕ
four m = word_at m 0 ∷ word_at m 1 ∷ word_at m 2 ∷ word_at m 3 ∷ []

-- ---- four words and the word

four_are : (ws : List ℕ) → length ws ≡ 4 → ws ≡ four (made ws)
four_are [] h = absurd (omega arith)
four_are (a ∷ []) h = absurd (omega arith)
four_are (a ∷ b ∷ []) h = absurd (omega arith)
four_are (a ∷ b ∷ c ∷ []) h = absurd (omega arith)
four_are (a ∷ b ∷ c ∷ d ∷ []) h = refl
four_are (a ∷ b ∷ c ∷ d ∷ e ∷ xs) h = absurd (omega arith)

-- four words, each equal
pub four_same : {p q r s t u v w : ℕ} → p ≡ t → q ≡ u → r ≡ v → s ≡ w → made (p ∷ q ∷ r ∷ s ∷ []) ≡ made (t ∷ u ∷ v ∷ w ∷ [])
four_same a b c d i = made (a i ∷ b i ∷ c i ∷ d i ∷ [])

-- four words that fit are a word of the type
pub typed_four : {a b c d : ℕ} → Fits w64 a → Fits w64 b → Fits w64 c → Fits w64 d → Typed (made (a ∷ b ∷ c ∷ d ∷ []))
typed_four {a} {b} {c} {d} p q r s = record { long = refl; each = go }
  where
    go : (j : ℕ) → Fits w64 (get_or (a ∷ b ∷ c ∷ d ∷ []) j 0)
    go zero = p
    go (suc zero) = q
    go (suc (suc zero)) = r
    go (suc (suc (suc zero))) = s
    go (suc (suc (suc (suc j)))) = record { fits = lit< tt }

-- words that make a number are its word
of_words : (ws : List ℕ) {v : ℕ} → length ws ≡ 4 → Words 64 ws → joined 64 ws ≡ v → made ws ≡ marks_of v
unfolding marks_of
of_words ws l h e =
    ap made (sym (split_joined 64 ws h) ∙ ap (λ (n : ℕ). split 64 n (joined 64 ws)) l ∙ ap (split 64 4) e)

-- ---- the word and the number that it makes

-- a number below the power is a word of the type
pub typed_of : (m : ℕ) → m < 2 ^ most → Typed (marks_of m)
unfolding marks_of split
typed_of m h =
    typed_four (record { fits = mod-lt _ (lit< tt) }) (record { fits = mod-lt _ (lit< tt) }) (record { fits = mod-lt _ (lit< tt) }) (record { fits = mod-lt _ (lit< tt) })

-- the number of a word that is made of a number
pub word_marks : (m : ℕ) → m < 2 ^ most → word_of (marks_of m) ≡ m
unfolding word_of marks_of
word_marks m h = joined_split 64 4 m ∙ mod-eq_of_lt h

module _ (m : Marks) (f : Typed m) where
  -- a word is its four words
  pub marks_four : m ≡ made (four m)
  marks_four = ap made (four_are m.words f.long)

  -- which fit
  four_fit : Words 64 (four m)
  four_fit = ((f.each 0).fits, ((f.each 1).fits, ((f.each 2).fits, ((f.each 3).fits, tt))))

  -- and make its number
  pub four_make : word_of m ≡ joined 64 (four m)
  unfolding word_of
  four_make = ap (λ (x : Marks). joined 64 x.words) marks_four

  -- a word of the type is below the power
  pub word_lt : word_of m < 2 ^ most
  word_lt = rw four_make (joined_lt 64 (four m) four_fit)

  -- a word is made of its number
  pub marks_word : marks_of (word_of m) ≡ m
  marks_word = sym (marks_four ∙ of_words (four m) refl four_fit (sym four_make))

-- the word with no bit
pub none_is : made (0 ∷ 0 ∷ 0 ∷ 0 ∷ []) ≡ marks_of 0
unfolding marks_of split
none_is = refl

-- a word of zeros is the one with no bit
pub zeros_none : (m : Marks) → Typed m → word_at m 0 ≡ 0 → word_at m 1 ≡ 0 → word_at m 2 ≡ 0 → word_at m 3 ≡ 0 → m ≡ marks_of 0
zeros_none m f p q r s = marks_four m f ∙ four_same p q r s ∙ none_is

-- and the one with no bit is of zeros
pub none_zeros : (j : ℕ) → word_at (marks_of 0) j ≡ 0
none_zeros j = ap (λ (m : Marks). word_at m j) (sym none_is) ∙ go j
  where
    go : (i : ℕ) → word_at (made (0 ∷ 0 ∷ 0 ∷ 0 ∷ [])) i ≡ 0
    go zero = refl
    go (suc zero) = refl
    go (suc (suc zero)) = refl
    go (suc (suc (suc zero))) = refl
    go (suc (suc (suc (suc i)))) = refl

-- ---- one word of the four: what `up` and `low` make

pub up_some : (x c n : ℕ) → c < 2 ^ 64 → n < 64 → bit_or (x * 2 ^ n % 2 ^ 64) (c / 2 ^ (64 - n)) ≡ x * 2 ^ n % 2 ^ 64 + c / 2 ^ (64 - n)
up_some x c n h k =
    let p : n ≤ 64 = omega arith in
    rw (stays 64 n p x) (or_shifted (x % 2 ^ (64 - n)) n (c / 2 ^ (64 - n)) (comes 64 n p c h))

module _ (x k below : ℕ) where
  pub low_some : k - below < 64 → bit_and x (1 * 2 ^ (k - below) % 2 ^ 64 - 1) ≡ x % 2 ^ min 64 (k - below)
  low_some p =
      rw (min-eq_right (le_of_lt p)) (ap (λ (y : ℕ). bit_and x (y - 1)) (one_shifted 64 (k - below) p) ∙ and_mask x (k - below))

-- ---- what the calls make

module _ (m : Marks) (f : Typed m) where
  -- every word moved up takes in what the word below loses
  pub lifted_is : (n : ℕ) → n < 64 → {p q r s : ℕ} → p ≡ word_at m 0 * 2 ^ n % 2 ^ 64 + 0 / 2 ^ (64 - n)
      → q ≡ word_at m 1 * 2 ^ n % 2 ^ 64 + word_at m 0 / 2 ^ (64 - n) → r ≡ word_at m 2 * 2 ^ n % 2 ^ 64 + word_at m 1 / 2 ^ (64 - n)
      → s ≡ word_at m 3 * 2 ^ n % 2 ^ 64 + word_at m 2 / 2 ^ (64 - n) → made (p ∷ q ∷ r ∷ s ∷ []) ≡ marks_of (word_of m * 2 ^ n % 2 ^ most)
  unfolding up_words
  lifted_is n h p q r s =
      let k : n ≤ 64 = omega arith in
      four_same p q r s
      ∙ of_words (up_words 64 n 0 (four m)) refl (up_words_lem 64 n k 0 (four m) (lit< tt) (four_fit m f))
      (up_joined 64 n k 0 (four m) (lit< tt) (four_fit m f)
      ∙ ap (λ (x : ℕ). (joined 64 (four m) * 2 ^ n + x) % 2 ^ most) (zero-div (2 ^ (64 - n)))
      ∙ ap (λ (x : ℕ). x % 2 ^ most) (add-zero (joined 64 (four m) * 2 ^ n)) ∙ ap (λ (x : ℕ). x * 2 ^ n % 2 ^ most) (sym (four_make m f)))

  -- a word moved up by j words is the lowest four of it with j zeros below
  pub hopped_is : (j : ℕ) {n : ℕ} → length (take 4 (zeros j (four m))) ≡ 4 → n ≡ j
      → made (take 4 (zeros j (four m))) ≡ marks_of (word_of m * 2 ^ (64 * n) % 2 ^ most)
  hopped_is j l e =
      let h = zeros_words 64 j (four m) (four_fit m f) in
      rw e (of_words (take 4 (zeros j (four m))) l (take_words 64 4 (zeros j (four m)) h)
      (take_joined 64 4 (zeros j (four m)) h
      ∙ ap (λ (x : ℕ). x % 2 ^ most) (zeros_joined 64 j (four m) ∙ ap (λ (x : ℕ). x * 2 ^ (64 * j)) (sym (four_make m f)))))

  -- a cut past the top leaves all
  pub cut_all : (k : ℕ) → most ≤ k → m ≡ marks_of (word_of m % 2 ^ k)
  cut_all k h = sym (ap marks_of (mod-eq_of_lt (lt_of_lt_of_le (word_lt m f) (pow_mono h))) ∙ marks_word m f)

  -- every word is cut where its part of the k bits ends
  pub cut_in : (k : ℕ) {p q r s : ℕ} → p ≡ word_at m 0 % 2 ^ min 64 (k - 0) → q ≡ word_at m 1 % 2 ^ min 64 (k - 64)
      → r ≡ word_at m 2 % 2 ^ min 64 (k - 128) → s ≡ word_at m 3 % 2 ^ min 64 (k - 192) → made (p ∷ q ∷ r ∷ s ∷ []) ≡ marks_of (word_of m % 2 ^ k)
  unfolding cut_words
  cut_in k p q r s =
      four_same (upto 0 p (omega arith)) q (upto 2 r (omega arith)) (upto 3 s (omega arith))
      ∙ of_words (cut_words 64 k (four m)) refl (cut_words_lem 64 k (four m) (four_fit m f))
      (cut_joined 64 k (four m) (four_fit m f) ∙ ap (λ (x : ℕ). x % 2 ^ k) (sym (four_make m f)))
    where
      upto : (j : ℕ) {x n o : ℕ} → x ≡ word_at m j % 2 ^ min 64 n → n ≡ o → x ≡ word_at m j % 2 ^ min 64 o
      upto j h e = h ∙ ap (λ (y : ℕ). word_at m j % 2 ^ min 64 y) e

  words_fit : Words 64 m.words
  words_fit = rw (four_are m.words f.long) (four_fit m f)

  -- the `or` in the code sets
  pub set_in : (k : ℕ) → k < most
      → made (set m.words (k / 64) (bit_or (word_at m (k / 64)) (1 * 2 ^ (k % 64) % 2 ^ 64))) ≡ marks_of (set_bit (word_of m) k % 2 ^ most)
  unfolding set_bit word_of
  set_in k h =
      let e : 64 * (k / 64) + k % 64 ≡ k = omega arith in
      let i : k % 64 < 64 = omega arith in
      ap (λ (x : ℕ). made (set m.words (k / 64) (bit_or (word_at m (k / 64)) x))) (one_shifted 64 (k % 64) i)
      ∙ of_words (set m.words (k / 64) (set_bit (word_at m (k / 64)) (k % 64))) (length-set m.words (k / 64) _ ∙ f.long)
      (set_words 64 m.words (k / 64) _ words_fit (set_lt 64 (word_at m (k / 64)) (k % 64) (f.each (k / 64)).fits i))
      (word_set 64 m.words (k / 64) (k % 64) words_fit i (rw f.long (omega arith)) ∙ ap (set_bit (word_of m)) e
      ∙ sym (mod-eq_of_lt (set_lt most (word_of m) k (word_lt m f) h)))

  -- a bit past the top is lost
  pub set_all : (k : ℕ) → most ≤ k → m ≡ marks_of (set_bit (word_of m) k % 2 ^ most)
  set_all k h = sym (ap marks_of (set_out most (word_of m) k (word_lt m f) h) ∙ marks_word m f)

  -- the shift and mask in the code test
  pub test_in : (k : ℕ) → eqb (bit_and (word_at m (k / 64) / 2 ^ (k % 64)) 1) 1 ≡ bit (word_of m) k
  unfolding word_of
  test_in k =
      let e : 64 * (k / 64) + k % 64 ≡ k = omega arith in
      test_bit (word_at m (k / 64)) (k % 64) ∙ sym (word_bit 64 m.words (k / 64) (k % 64) words_fit (omega arith)) ∙ ap (bit (word_of m)) e

  -- no bit is set past the top
  pub test_out : (k : ℕ) → most ≤ k → false ≡ bit (word_of m) k
  test_out k h = sym (high_bit most (word_of m) k (word_lt m f) h)

  -- the word has the ones of its four words
  pub ones_four : ones (word_at m 3) + ones (word_at m 2) + ones (word_at m 1) + ones (word_at m 0) ≡ ones (word_of m)
  unfolding sum_ones
  ones_four = omega (arith, ap ones (four_make m f) ∙ ones_joined 64 (four m) (four_fit m f))

-- nothing is left past the top
pub hopped_out : (m : Marks) (n : ℕ) → 4 ≤ n → marks_of 0 ≡ marks_of (word_of m * 2 ^ (64 * n) % 2 ^ most)
hopped_out m n h = ap marks_of (sym (shifted_out most (word_of m) (64 * n) (omega arith)))

-- moved by whole words, and then by the bits that are left
pub moved_by_both : (m : Marks) (k : ℕ) {u v : Marks} → u ≡ marks_of (word_of m * 2 ^ (64 * (k / 64)) % 2 ^ most)
    → v ≡ marks_of (word_of u * 2 ^ (k % 64) % 2 ^ most) → v ≡ marks_of (word_of m * 2 ^ k % 2 ^ most)
moved_by_both m k e g =
    g ∙ ap marks_of (ap (λ (x : ℕ). x * 2 ^ (k % 64) % 2 ^ most) (ap word_of e ∙ word_marks _ (mod-lt _ (pow_pos most)))
    ∙ move_move most (word_of m) (64 * (k / 64)) (k % 64) k (omega arith))

-- two words are the same number where they are the same word by word
pub same_is : (m n : Marks) → Typed m → Typed n → pointwise nat_eq m.words n.words ≡ eqb (word_of m) (word_of n)
same_is m n f g = go (pointwise nat_eq m.words n.words) refl
  where
    from_number : word_of m ≡ word_of n → m ≡ n
    from_number h = sym (marks_word m f) ∙ ap marks_of h ∙ marks_word n g

    go : (b : Bool) → pointwise nat_eq m.words n.words ≡ b → b ≡ eqb (word_of m) (word_of n)
    go true e = sym (eq-eqb _ _ (ap (λ (w : List ℕ). word_of (record { words = w })) (same_text _ _ (sym e))))
    go false e = sym (ne_eqb _ _ (λ h. other_text _ _ (sym e) (ap (λ (x : Marks). x.words) (from_number h))))

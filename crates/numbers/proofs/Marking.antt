-- What marking a number does to the window, at any width: which numbers are marked after it, and that the rule for one key is kept.
-- Assumes nothing.
use Prim.Native.Nat.{ℕ, ◌+◌, ◌-◌, ◌*◌, ◌%◌, ◌^◌, ◌≤◌, ◌<◌, min}
use mathlib.Core.Path.{◌≡◌, refl, sym, ap, ◌∙◌, subst}
use mathlib.Core.Bool.{Bool, true, false, ◌&&◌, ◌||◌, and-eq-true_iff}
use native.Mathlib.Nat.{mod-lt, mod-le, lt_of_le_of_lt, lt_of_lt_of_le, min-eq_left, min-eq_right, min-le_left, min-le_right}
use native.Mathlib.Omega.{arith}
use native.Mathlib.Decide.{dec_lt, dec_le}
use lib.Dec.{leb, ltb, eqb}
use lib.Pow.{pow_pos, pow_mono, shl_lt}
use borrow.Author.Tests.{lt-ltb, le-ltb, le-leb, lt-leb, eq-eqb, ne_eqb, leb-true, ltb-true}
use Rattle.answers.specs.Refusal as Refusal
use Rattle.answers.proofs.Tests.{true_not_false}
use Rattle.numbers.specs.Word.{bit, set_bit}
use Rattle.numbers.specs.Window.{marked, verdict, mark_next, mark_word, sound}
use Rattle.numbers.proofs.Bits.{set_bit_lem, set_lt, high_bit, mod_bit, shl_bit_low, shl_bit_high}
use Rattle.numbers.proofs.Cases.{seen_first, verdict_spent, verdict_old, next_is, mark_spent, mark_ahead, mark_old, mark_within}

-- ---- which numbers are marked

-- below e a bit decides
pub marked_at : (e m k : ℕ) → k < e → marked e m k ≡ bit m (e - 1 - k)
unfolding marked
marked_at e m k h = simp (lt-ltb k e h)

-- from e on nothing is marked
pub marked_past : (e m k : ℕ) → e ≤ k → marked e m k ≡ false
unfolding marked
marked_past e m k h = simp (le-ltb k e h)

-- what is marked lies below e
pub marked_below : (e m k : ℕ) → marked e m k ≡ true → k < e
marked_below e m k h = go (dec_lt k e)
  where
    go : Dec (k < e) → k < e
    go (yes p) = p
    go (no p) = absurd (true_not_false h (marked_past e m k (omega arith)))

-- and within the width
pub marked_within : (w e m k : ℕ) → m < 2 ^ w → marked e m k ≡ true → e ≤ k + w
marked_within w e m k f h = go (dec_le e (k + w))
  where
    go : Dec (e ≤ k + w) → e ≤ k + w
    go (yes p) = p
    go (no p) = absurd (true_not_false h (marked_at e m k (omega arith) ∙ high_bit w m (e - 1 - k) f (omega arith)))

-- a number at or past e: the word is moved up, and bit 0 is set
module _ (w e m n k : ℕ) (hw : 0 < w) (h : e ≤ n) where
  abbrev up : ℕ
  up = m * 2 ^ (n + 1 - e) % 2 ^ w

  -- below n and in the window, the bit is the one that k had
  moved_bit : k < n → n + 1 ≤ k + w → bit up (n - k) ≡ marked e m k
  moved_bit p v = go (dec_lt k e)
    where
      low : bit up (n - k) ≡ bit (m * 2 ^ (n + 1 - e)) (n - k)
      low = mod_bit w (m * 2 ^ (n + 1 - e)) (n - k) (omega arith)

      go : Dec (k < e) → bit up (n - k) ≡ marked e m k
      go (yes f) = low ∙ shl_bit_high m (n + 1 - e) (n - k) (omega arith) ∙ ap (bit m) (omega arith) ∙ sym (marked_at e m k f)
      go (no f) = low ∙ shl_bit_low m (n + 1 - e) (n - k) (omega arith) ∙ sym (marked_past e m k (omega arith))

  ahead_bit : k ≤ n → marked (n + 1) (set_bit up 0) k ≡ (eqb (n - k) 0 || bit up (n - k))
  ahead_bit p = marked_at (n + 1) _ k (omega arith) ∙ ap (bit (set_bit up 0)) (omega arith) ∙ set_bit_lem up 0 (n - k)

  -- past n; n itself; below n and out of the window; below n and in it
  ahead_marked : marked (n + 1) (set_bit up 0) k ≡ (leb (n + 1) (k + w) && (eqb k n || marked e m k))
  ahead_marked = go (dec_lt n k) (dec_lt k n) (dec_le (n + 1) (k + w))
    where
      go : Dec (n < k) → Dec (k < n) → Dec (n + 1 ≤ k + w) → marked (n + 1) (set_bit up 0) k ≡ (leb (n + 1) (k + w) && (eqb k n || marked e m k))
      go (yes p) d v =
          marked_past (n + 1) _ k (omega arith)
          ∙ sym (simp (le-leb (n + 1) (k + w) (omega arith), ne_eqb k n (omega arith), marked_past e m k (omega arith)))
      go (no p) (no q) v =
          ahead_bit (omega arith)
          ∙ simp (eq-eqb (n - k) 0 (omega arith), le-leb (n + 1) (k + w) (omega arith), eq-eqb k n (omega arith))
      go (no p) (yes q) (no v) =
          let o : w ≤ n - k = omega arith in
          ahead_bit (omega arith)
          ∙ simp (ne_eqb (n - k) 0 (omega arith), lt-leb (n + 1) (k + w) (omega arith), high_bit w up (n - k) (mod-lt _ (pow_pos w)) o)
      go (no p) (yes q) (yes v) =
          ahead_bit (omega arith)
          ∙ simp (ne_eqb (n - k) 0 (omega arith), le-leb (n + 1) (k + w) v, ne_eqb k n (omega arith), moved_bit q v)

-- a number below e: its bit is set
within_marked : (w e m n k : ℕ) → m < 2 ^ w → n < e → e - 1 - n < w
    → marked e (set_bit m (e - 1 - n)) k ≡ (leb e (k + w) && (eqb k n || marked e m k))
within_marked w e m n k hm h hw = go (dec_lt k e) (dec_le e (k + w)) (dec_lt k n) (dec_lt n k)
  where
    go : Dec (k < e) → Dec (e ≤ k + w) → Dec (k < n) → Dec (n < k) → marked e (set_bit m (e - 1 - n)) k ≡ (leb e (k + w) && (eqb k n || marked e m k))
    go (no p) d f v =
        let a : e ≤ k = omega arith in
        let c : e ≤ k + w = omega arith in
        marked_past e _ k a ∙ sym (simp (le-leb _ _ c, ne_eqb k n (omega arith), marked_past e m k a))
    go (yes p) (no q) f v =
        let b : w ≤ e - 1 - k = omega arith in
        marked_at e _ k p ∙ set_bit_lem m (e - 1 - n) (e - 1 - k)
        ∙ simp (ne_eqb (e - 1 - k) (e - 1 - n) (omega arith), lt-leb e (k + w) (omega arith), high_bit w m (e - 1 - k) hm b)
    go (yes p) (yes q) (yes f) v =
        marked_at e _ k p ∙ set_bit_lem m (e - 1 - n) (e - 1 - k)
        ∙ sym (simp (le-leb _ _ q, ne_eqb k n (omega arith), ne_eqb (e - 1 - k) (e - 1 - n) (omega arith), marked_at e m k p))
    go (yes p) (yes q) (no f) (yes v) =
        marked_at e _ k p ∙ set_bit_lem m (e - 1 - n) (e - 1 - k)
        ∙ sym (simp (le-leb _ _ q, ne_eqb k n (omega arith), ne_eqb (e - 1 - k) (e - 1 - n) (omega arith), marked_at e m k p))
    go (yes p) (yes q) (no f) (no v) =
        marked_at e _ k p ∙ set_bit_lem m (e - 1 - n) (e - 1 - k)
        ∙ sym (simp (le-leb _ _ q, eq-eqb k n (omega arith), eq-eqb (e - 1 - k) (e - 1 - n) (omega arith)))

-- After n is marked, a number is marked where it lies in the window and is n or was marked.
pub mark_law : (w l e m n k : ℕ) → 0 < w → m < 2 ^ w → n < l → e ≤ n + w
    → marked (mark_next l e n) (mark_word w l e m n) k ≡ (leb (mark_next l e n) (k + w) && (eqb k n || marked e m k))
mark_law w l e m n k hw hm hl old = go (dec_le e n)
  where
    go : Dec (e ≤ n) → marked (mark_next l e n) (mark_word w l e m n) k ≡ (leb (mark_next l e n) (k + w) && (eqb k n || marked e m k))
    go (yes p) =
        let s = mark_ahead w l e m n hl p in
        rw (s.0, s.1) (ahead_marked w e m n k hw p)
    go (no p) =
        let s = mark_within w l e m n hl (omega arith) (omega arith) in
        rw (s.0, s.1) (within_marked w e m n k hm (omega arith) (omega arith))

-- ---- the word stays within its width and within e

-- a bound by the width and a bound by e
both : (w e m : ℕ) → m < 2 ^ w → m < 2 ^ e → m < 2 ^ min w e
both w e m h k = go (dec_le w e)
  where
    go : Dec (w ≤ e) → m < 2 ^ min w e
    go (yes p) = rw (min-eq_left p) h
    go (no p) = let q : e ≤ w = omega arith in rw (min-eq_right q) k

-- the word as it is moved up fits below the new e
moved : (w e m n : ℕ) → e ≤ n → m < 2 ^ min w e → m * 2 ^ (n + 1 - e) % 2 ^ w < 2 ^ min w (n + 1)
moved w e m n h k =
    let s : e + (n + 1 - e) ≡ n + 1 = omega arith in
    both w (n + 1) _ (mod-lt _ (pow_pos w))
    (lt_of_le_of_lt (mod-le _ (2 ^ w))
    (subst (λ (x : ℕ). m * 2 ^ (n + 1 - e) < 2 ^ x) s (shl_lt e (n + 1 - e) (lt_of_lt_of_le k (pow_mono (min-le_right w e))))))

-- a word that fits what is held fits the width
pub word_fits_width : (w e m : ℕ) → m < 2 ^ min w e → m < 2 ^ w
word_fits_width w e m h = lt_of_lt_of_le h (pow_mono (min-le_left w e))

-- marking keeps the word within what is held
pub word_kept : (w l e m n : ℕ) → 0 < w → m < 2 ^ min w e → mark_word w l e m n < 2 ^ min w (mark_next l e n)
word_kept w l e m n hw hm = go (dec_lt n l) (dec_le e n) (dec_lt (e - 1 - n) w)
  where
    go : Dec (n < l) → Dec (e ≤ n) → Dec (e - 1 - n < w) → mark_word w l e m n < 2 ^ min w (mark_next l e n)
    go (no p) d f = let c = mark_spent w l e m n (omega arith) in rw (c.0, c.1) hm
    go (yes p) (yes q) f =
        let c = mark_ahead w l e m n p q in
        rw (c.0, c.1) (set_lt (min w (n + 1)) _ 0 (moved w e m n q hm) (omega arith))
    go (yes p) (no q) (yes f) =
        let c = mark_within w l e m n p (omega arith) f in rw (c.0, c.1) (set_lt (min w e) m _ hm (omega arith))
    go (yes p) (no q) (no f) = let c = mark_old w l e m n p (omega arith) (omega arith) in rw (c.0, c.1) hm

-- ---- the rule for one key

-- the parts of `sound`
pub record Sound (w l e m : ℕ) : Type 0 where
  pub limit : e ≤ l
  pub word : m < 2 ^ min w e
  pub top : (eqb e 0 || bit m 0) ≡ true

-- `sound` has the parts
pub sound_parts : (w l e m : ℕ) → sound w l e m ≡ true → Sound w l e m
unfolding sound
sound_parts w l e m h =
    let a = (and-eq-true_iff (leb e l && ltb m (2 ^ min w e)) (eqb e 0 || bit m 0)).0 h in
    let b = (and-eq-true_iff (leb e l) (ltb m (2 ^ min w e))).0 a.0 in
    record { limit = leb-true e l b.0; word = ltb-true m (2 ^ min w e) b.1; top = a.1 }

-- and the parts make it
pub sound_whole : (w l e m : ℕ) → Sound w l e m → sound w l e m ≡ true
unfolding sound
sound_whole w l e m s = simp (le-leb e l s.limit, lt-ltb m (2 ^ min w e) s.word, s.top)

-- a test or true
pub or_true : (b : Bool) → (b || true) ≡ true
or_true true = refl
or_true false = refl

-- Marking keeps the rule.
pub mark_sound : (w l e m n : ℕ) → 0 < w → sound w l e m ≡ true → sound w l (mark_next l e n) (mark_word w l e m n) ≡ true
mark_sound w l e m n hw h = go (dec_lt n l) (dec_le e n) (dec_lt (e - 1 - n) w)
  where
    s : Sound w l e m
    s = sound_parts w l e m h

    fits : mark_word w l e m n < 2 ^ min w (mark_next l e n)
    fits = word_kept w l e m n hw s.word

    go : Dec (n < l) → Dec (e ≤ n) → Dec (e - 1 - n < w) → sound w l (mark_next l e n) (mark_word w l e m n) ≡ true
    go (no p) d f = let c = mark_spent w l e m n (omega arith) in rw (c.0, c.1) h
    go (yes p) (no q) (no f) = let c = mark_old w l e m n p (omega arith) (omega arith) in rw (c.0, c.1) h
    go (yes p) (yes q) f =
        let c = mark_ahead w l e m n p q in
        sound_whole w l _ _ (record {
          limit = rw c.0 (omega arith);
          word = fits;
          top = rw (c.0, c.1) (simp (ne_eqb (n + 1) 0 (omega arith), set_bit_lem (m * 2 ^ (n + 1 - e) % 2 ^ w) 0 0));
        })
    go (yes p) (no q) (yes f) =
        let c = mark_within w l e m n p (omega arith) f in
        let b : bit m 0 ≡ true = simp (ne_eqb e 0 (omega arith)) at s.top in
        sound_whole w l _ _ (record {
          limit = rw c.0 s.limit;
          word = fits;
          top = rw (c.0, c.1) (simp (ne_eqb e 0 (omega arith), set_bit_lem m (e - 1 - n) 0, b) (or_true (eqb 0 (e - 1 - n))));
        })

-- What was marked is Repeat from then on, while it lies in the window.
pub mark_repeat : (w l e m n : ℕ) → 0 < w → m < 2 ^ w → n < l → e ≤ n + w → verdict w l (mark_next l e n) (mark_word w l e m n) n ≡ Refusal.repeat
unfolding verdict
mark_repeat w l e m n hw hm hl old =
    let i = next_is w l e m n hl in
    let a : mark_next l e n ≤ n + w = omega arith in
    let c : marked (mark_next l e n) (mark_word w l e m n) n ≡ true = mark_law w l e m n n hw hm hl old ∙ simp (le-leb _ _ a, eq-eqb n n refl) in
    seen_first w l _ _ n hl a ∙ simp c

-- what was not refused is below the limit and in the window, or ahead of it
pub verdict_zero : (w l e m n : ℕ) → verdict w l e m n ≡ 0 → (n < l) × (e ≤ n + w)
verdict_zero w l e m n h = go (dec_lt n l) (dec_le e (n + w))
  where
    go : Dec (n < l) → Dec (e ≤ n + w) → (n < l) × (e ≤ n + w)
    go (no p) d = absurd (omega (arith, verdict_spent w l e m n (omega arith)))
    go (yes p) (no q) = absurd (omega (arith, verdict_old w l e m n p (omega arith) (omega arith)))
    go (yes p) (yes q) = (p, q)

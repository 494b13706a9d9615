-- What the definitions of `specs/` come to in each case that the code tells apart.
-- Assumes nothing.
use Prim.Native.Nat.{ℕ, ◌+◌, ◌-◌, ◌*◌, ◌%◌, ◌^◌, ◌≤◌, ◌<◌, max}
use mathlib.Core.Path.{◌≡◌, sym, ap, ◌∙◌, subst}
use mathlib.Core.Bool.{Bool, cond}
use lib.Dec.{eqb, ltb}
use lib.Pow.{pow_pos}
use native.Mathlib.Nat.{mod-lt, mod-eq_of_lt}
use native.Mathlib.Decide.{dec_le, dec_lt}
use native.Mathlib.Omega.{arith}
use borrow.Author.Tests.{lt-ltb, le-ltb, le-leb, lt-leb, eq-eqb, ne_eqb}
use Rattle.answers.specs.Refusal as Refusal
use Rattle.answers.specs.Table.{first}
use Rattle.numbers.specs.Number.{whole, nearest, number_rows}
use Rattle.numbers.specs.Word.{bit, set_bit}
use Rattle.numbers.specs.Window.{marked, verdict, mark_next, mark_word}

-- what the number rows answer of any memory
module _ (w l e : ℕ) (seen : ℕ → Bool) (n : ℕ) where
  -- a number at the limit or past it is Spent
  pub spent_first : l ≤ n → first (number_rows w l e seen n) ≡ Refusal.spent
  unfolding number_rows
  spent_first h = simp (le-leb l n h)

  -- a number older than the width is Old, marked or not
  pub old_first : n < l → w < e - n → first (number_rows w l e seen n) ≡ Refusal.old
  unfolding number_rows
  old_first h o = simp (lt-leb l n h, lt-ltb w (e - n) o)

  -- within the width the memory decides
  pub seen_first : n < l → e ≤ n + w → first (number_rows w l e seen n) ≡ cond (seen n) Refusal.repeat 0
  unfolding number_rows
  seen_first h o =
      let p : e - n ≤ w = omega arith in
      simp (lt-leb l n h, le-ltb w (e - n) p)

-- two memories that agree on n within the width refuse it alike
pub first_agree : (w l e : ℕ) (seen other : ℕ → Bool) (n : ℕ) → (e ≤ n + w → seen n ≡ other n)
    → first (number_rows w l e seen n) ≡ first (number_rows w l e other n)
first_agree w l e seen other n h = go (dec_lt n l) (dec_le e (n + w))
  where
    go : Dec (n < l) → Dec (e ≤ n + w) → first (number_rows w l e seen n) ≡ first (number_rows w l e other n)
    go (no p) d = spent_first w l e seen n (omega arith) ∙ sym (spent_first w l e other n (omega arith))
    go (yes p) (no q) = old_first w l e seen n p (omega arith) ∙ sym (old_first w l e other n p (omega arith))
    go (yes p) (yes q) =
        seen_first w l e seen n p q ∙ ap (λ (b : Bool). cond b Refusal.repeat 0) (h q) ∙ sym (seen_first w l e other n p q)

-- ---- the window's cases

module _ (w l e m n : ℕ) where
  -- at the limit or past it: Spent
  pub verdict_spent : l ≤ n → verdict w l e m n ≡ Refusal.spent
  unfolding verdict
  verdict_spent h = spent_first w l e (marked e m) n h

  -- past all that was marked: taken
  pub verdict_ahead : n < l → e ≤ n → verdict w l e m n ≡ 0
  unfolding verdict marked
  verdict_ahead h k = seen_first w l e (marked e m) n h (omega arith) ∙ simp (le-ltb n e k)

  -- older than the width: Old
  pub verdict_old : n < l → n < e → w ≤ e - 1 - n → verdict w l e m n ≡ Refusal.old
  unfolding verdict
  verdict_old h k o = old_first w l e (marked e m) n h (omega arith)

  -- within the width: its bit decides
  pub verdict_bit : n < l → n < e → e - 1 - n < w → verdict w l e m n ≡ cond (bit m (e - 1 - n)) Refusal.repeat 0
  unfolding verdict marked
  verdict_bit h k o = seen_first w l e (marked e m) n h (omega arith) ∙ simp (lt-ltb n e k)

  -- e after a usable number is marked
  pub next_is : n < l → mark_next l e n ≡ max e (n + 1)
  unfolding mark_next
  next_is h = simp (lt-leb l n h)

  -- at the limit or past it nothing changes
  pub mark_spent : l ≤ n → (mark_next l e n ≡ e) × (mark_word w l e m n ≡ m)
  unfolding mark_next mark_word
  mark_spent h = (simp (le-leb l n h), simp (le-leb l n h))

  -- past all that was marked the word is moved up and bit 0 is set
  pub mark_ahead : n < l → e ≤ n → (mark_next l e n ≡ n + 1) × (mark_word w l e m n ≡ set_bit (m * 2 ^ (n + 1 - e) % 2 ^ w) 0)
  unfolding mark_next mark_word
  mark_ahead h k = (simp (lt-leb l n h) (omega arith), simp (lt-leb l n h, le-leb e n k))

  -- older than the width nothing changes
  pub mark_old : n < l → n < e → w ≤ e - 1 - n → (mark_next l e n ≡ e) × (mark_word w l e m n ≡ m)
  unfolding mark_next mark_word
  mark_old h k o =
      let p : w < e - n = omega arith in
      (simp (lt-leb l n h) (omega arith), simp (lt-leb l n h, lt-leb e n k, lt-ltb w (e - n) p))

  -- within the width its bit is set
  pub mark_within : n < l → n < e → e - 1 - n < w → (mark_next l e n ≡ e) × (mark_word w l e m n ≡ set_bit m (e - 1 - n))
  unfolding mark_next mark_word
  mark_within h k o =
      let p : e - n ≤ w = omega arith in
      (simp (lt-leb l n h) (omega arith), simp (lt-leb l n h, lt-leb e n k, le-ltb w (e - n) p))

-- ---- the number

-- which side of 65536 the whole number is on
pub nearest_pos : (e low : ℕ) → 65536 ≤ whole e low → nearest e low ≡ whole e low - 65536
unfolding nearest
nearest_pos e low h = simp (le-leb 65536 (whole e low) h)

-- and where that is negative
pub nearest_neg : (e low : ℕ) → whole e low < 65536 → nearest e low ≡ whole e low
unfolding nearest
nearest_neg e low h = simp (lt-leb 65536 (whole e low) h)

-- a number is below a power where its low bits are all of it
pub below_test : (m k : ℕ) → eqb m (m % 2 ^ k) ≡ ltb m (2 ^ k)
below_test m k = go (dec_lt m (2 ^ k))
  where
    go : Dec (m < 2 ^ k) → eqb m (m % 2 ^ k) ≡ ltb m (2 ^ k)
    go (yes p) = eq-eqb _ _ (sym (mod-eq_of_lt p)) ∙ sym (lt-ltb m (2 ^ k) p)
    go (no p) = ne_eqb _ _ (λ e. p (subst (λ (x : ℕ). x < 2 ^ k) (sym e) (mod-lt m (pow_pos k)))) ∙ sym (le-ltb m (2 ^ k) (omega arith))

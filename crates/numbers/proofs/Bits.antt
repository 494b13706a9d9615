-- The bits of a word, on plain numbers: `m / 2 ^ i % 2` is bit i of m.
-- Assumes nothing.
use Prim.Native.Nat.{ℕ, zero, suc, ◌+◌, ◌-◌, ◌*◌, ◌/◌, ◌%◌, ◌^◌, ◌≤◌, ◌<◌, max}
use mathlib.Core.Path.{◌≡◌, refl, sym, ap, ap₂, ◌∙◌, subst}
use mathlib.Core.Bool.{Bool, true, false, ◌||◌, false≢true}
use mathlib.Core.Logic.{◌⊎◌, inl, inr}
use native.Mathlib.Nat.{one-mul, mod-one, mul_assoc, mul-mod_left, mul-div_cancel, mod-lt, mod-eq_of_lt, div-eq_of_lt, zero-lt-suc, le_of_lt, le_refl, lt_irrefl, lt_of_lt_of_le, div_self, mul-div-mul_right}
use native.Mathlib.Omega.{arith}
use native.Mathlib.Decide.{dec_lt}
use native.Mathlib.Numerals.{one-add}
use lib.Dec.{eqb}
use lib.Arith.{digits_mod}
use lib.Bits.{bit_and, bit_or, and_mask, or_step, or_shr, or_lt, or_comm, shifted_even}
use lib.Pow.{pow_pos, pow-lt, pow-add, pow_mono, field, mod-mod-pow, mod-pow-add}
use borrow.Author.Tests.{eq-eqb, ne_eqb}
use Rattle.numbers.specs.Word.{bit, set_bit}

-- `m >> i & 1` in the code
pub test_bit : (m i : ℕ) → eqb (bit_and (m / 2 ^ i) 1) 1 ≡ bit m i
unfolding bit
test_bit m i = ap (λ (x : ℕ). eqb x 1) (and_mask (m / 2 ^ i) 1)

-- `1 << i` in the code, at a width w
pub one_shifted : (w i : ℕ) → i < w → (1 * 2 ^ i) % 2 ^ w ≡ 2 ^ i
one_shifted w i h = ap (λ (x : ℕ). x % 2 ^ w) (one-mul (2 ^ i)) ∙ mod-eq_of_lt (pow-lt h)

-- a power is the product of two
pub pow_split : (i j : ℕ) → i ≤ j → 2 ^ j ≡ 2 ^ (j - i) * 2 ^ i
pow_split i j h = let e : j ≡ (j - i) + i = omega arith in ap (λ (x : ℕ). 2 ^ x) e ∙ pow-add 2 (j - i) i

-- nothing is left of a word that is moved up by its width or more
pub shifted_out : (w m k : ℕ) → w ≤ k → m * 2 ^ k % 2 ^ w ≡ 0
shifted_out w m k h =
    ap (λ (x : ℕ). m * x % 2 ^ w) (pow_split w k h) ∙ ap (λ (x : ℕ). x % 2 ^ w) (sym (mul_assoc m (2 ^ (k - w)) (2 ^ w)))
    ∙ mul-mod_left (m * 2 ^ (k - w)) (2 ^ w)

-- the low w bits of the low v bits
pub mod_within : (v w x : ℕ) → w ≤ v → x % 2 ^ v % 2 ^ w ≡ x % 2 ^ w
mod_within v w x h =
    let e : v ≡ (v - w) + w = omega arith in
    ap (λ (k : ℕ). x % 2 ^ k % 2 ^ w) e ∙ mod-mod-pow x (v - w) w

-- ---- bit j of what the operations make

bit_lt : (m i : ℕ) → m / 2 ^ i % 2 < 2
bit_lt m i = mod-lt (m / 2 ^ i) (zero-lt-suc 1)

either : (x y : ℕ) → x < 2 → y < 2 → eqb (max x y) 1 ≡ (eqb x 1 || eqb y 1)
either zero zero p q = refl
either zero (suc zero) p q = refl
either zero (suc (suc y)) p q = absurd (omega arith)
either (suc zero) zero p q = refl
either (suc zero) (suc zero) p q = refl
either (suc zero) (suc (suc y)) p q = absurd (omega arith)
either (suc (suc x)) y p q = absurd (omega arith)

or_low : (a b : ℕ) → bit_or a b % 2 ≡ max (a % 2) (b % 2)
or_low a b =
    ap (λ (x : ℕ). x % 2) (or_step a b)
    ∙ digits_mod (bit_or (a / 2) (b / 2)) (let p = mod-lt a (zero-lt-suc 1) in let q = mod-lt b (zero-lt-suc 1) in omega arith)

-- a bit of two words joined
or_bit : (a b j : ℕ) → bit (bit_or a b) j ≡ (bit a j || bit b j)
unfolding bit
or_bit a b j =
    ap (λ (x : ℕ). eqb x 1) (ap (λ (x : ℕ). x % 2) (or_shr a b j) ∙ or_low (a / 2 ^ j) (b / 2 ^ j))
    ∙ either (a / 2 ^ j % 2) (b / 2 ^ j % 2) (bit_lt a j) (bit_lt b j)

-- a word below a power has no bit at or past it
pub high_bit : (w m j : ℕ) → m < 2 ^ w → w ≤ j → bit m j ≡ false
unfolding bit
high_bit w m j h k = ap (λ (x : ℕ). eqb (x % 2) 1) (div-eq_of_lt (lt_of_lt_of_le h (pow_mono k)))

-- an even power
pow_even : (m d : ℕ) → 0 < d → m * 2 ^ d % 2 ≡ 0
pow_even m zero h = absurd (omega arith)
pow_even m (suc d) h = shifted_even m d

-- a word that is moved up has no bit below that
pub shl_bit_low : (m k j : ℕ) → j < k → bit (m * 2 ^ k) j ≡ false
unfolding bit
shl_bit_low m k j h =
    ap (λ (x : ℕ). eqb (x % 2) 1)
    (ap (λ (x : ℕ). m * x / 2 ^ j) (pow_split j k (le_of_lt h))
    ∙ ap (λ (x : ℕ). x / 2 ^ j) (sym (mul_assoc m (2 ^ (k - j)) (2 ^ j)))
    ∙ mul-div_cancel (m * 2 ^ (k - j)) (pow_pos j))
    ∙ ap (λ (x : ℕ). eqb x 1) (pow_even m (k - j) (omega arith))

-- and above it the bits that it had
pub shl_bit_high : (m k j : ℕ) → k ≤ j → bit (m * 2 ^ k) j ≡ bit m (j - k)
unfolding bit
shl_bit_high m k j h =
    ap (λ (x : ℕ). eqb (x % 2) 1) (ap (λ (x : ℕ). m * 2 ^ k / x) (pow_split k j h) ∙ mul-div-mul_right m (2 ^ (j - k)) (pow_pos k))

-- a word's low bits are its own
pub mod_bit : (w m j : ℕ) → j < w → bit (m % 2 ^ w) j ≡ bit m j
unfolding bit
mod_bit w m j h =
    let e : w ≡ ((w - j - 1) + 1) + j = omega arith in
    ap (λ (x : ℕ). eqb x 1)
    (ap (λ (x : ℕ). m % 2 ^ x / 2 ^ j % 2) e
    ∙ ap (λ (x : ℕ). x % 2) (field m ((w - j - 1) + 1) j)
    ∙ mod-mod-pow (m / 2 ^ j) (w - j - 1) 1)

pow_bit_same : (i : ℕ) → bit (2 ^ i) i ≡ true
unfolding bit
pow_bit_same i = ap (λ (x : ℕ). eqb (x % 2) 1) (div_self (pow_pos i))

-- a power has one bit
pow_bit : (i j : ℕ) → bit (2 ^ i) j ≡ eqb j i
pow_bit i j = go (dec_lt j i) (dec_lt i j)
  where
    go : Dec (j < i) → Dec (i < j) → bit (2 ^ i) j ≡ eqb j i
    go (yes p) d =
        ap (λ (x : ℕ). bit x j) (sym (one-mul (2 ^ i))) ∙ shl_bit_low 1 i j p ∙ sym (ne_eqb j i (λ e. lt_irrefl i (subst (λ (x : ℕ). x < i) e p)))
    go (no p) (yes q) = high_bit j (2 ^ i) j (pow-lt q) (le_refl j) ∙ sym (ne_eqb j i (λ e. lt_irrefl i (subst (λ (x : ℕ). i < x) e q)))
    go (no p) (no q) = let e : j ≡ i = omega arith in rw e (pow_bit_same i ∙ sym (eq-eqb i i refl))

-- the bits after one is set
pub set_bit_lem : (m i j : ℕ) → bit (set_bit m i) j ≡ (eqb j i || bit m j)
unfolding set_bit
set_bit_lem m i j = ap (λ (x : ℕ). bit x j) (or_comm m (2 ^ i)) ∙ or_bit (2 ^ i) m j ∙ ap (λ (b : Bool). b || bit m j) (pow_bit i j)

-- a word with one more bit set stays below the same power
pub set_lt : (k m i : ℕ) → m < 2 ^ k → i < k → set_bit m i < 2 ^ k
unfolding set_bit
set_lt k m i h p = or_lt k m (2 ^ i) h (pow-lt p)

-- ---- a word is its bits

digit_same : (x y : ℕ) → x < 2 → y < 2 → eqb x 1 ≡ eqb y 1 → x ≡ y
digit_same zero zero p q e = refl
digit_same zero (suc zero) p q e = absurd (false≢true e)
digit_same zero (suc (suc y)) p q e = absurd (omega arith)
digit_same (suc zero) zero p q e = absurd (false≢true (sym e))
digit_same (suc zero) (suc zero) p q e = refl
digit_same (suc zero) (suc (suc y)) p q e = absurd (omega arith)
digit_same (suc (suc x)) y p q e = absurd (omega arith)

low_ext : (k a b : ℕ) → ((i : ℕ) → i < k → bit a i ≡ bit b i) → a % 2 ^ k ≡ b % 2 ^ k
unfolding bit
low_ext zero a b h = mod-one a ∙ sym (mod-one b)
low_ext (suc k) a b h =
    ap (λ (x : ℕ). a % 2 ^ x) (sym (one-add k)) ∙ mod-pow-add a 1 k
    ∙ ap₂ (λ (x y : ℕ). x * 2 ^ k + y) (digit_same _ _ (bit_lt a k) (bit_lt b k) (h k (omega arith))) (low_ext k a b (λ i p. h i (omega arith)))
    ∙ sym (ap (λ (x : ℕ). b % 2 ^ x) (sym (one-add k)) ∙ mod-pow-add b 1 k)

-- two words with the same bits are one
pub word_ext : (w a b : ℕ) → a < 2 ^ w → b < 2 ^ w → ((i : ℕ) → i < w → bit a i ≡ bit b i) → a ≡ b
word_ext w a b p q h = sym (mod-eq_of_lt p) ∙ low_ext w a b h ∙ mod-eq_of_lt q

-- ---- a word that is not below a power has a bit there

drop_bit : (k m : ℕ) → m < 2 ^ suc k → bit m k ≡ false → m < 2 ^ k
unfolding bit
drop_bit k m h b =
    let z : m / 2 ^ k % 2 ≡ 0 = digit_same _ _ (bit_lt m k) (omega arith) b in
    let s : m ≡ m % 2 ^ k =
    sym (mod-eq_of_lt h) ∙ ap (λ (x : ℕ). m % 2 ^ x) (sym (one-add k)) ∙ mod-pow-add m 1 k
    ∙ ap (λ (x : ℕ). x * 2 ^ k + m % 2 ^ k) z ∙ zero_mul_add (2 ^ k) (m % 2 ^ k) in
    subst (λ (x : ℕ). x < 2 ^ k) (sym s) (mod-lt m (pow_pos k))
  where
    zero_mul_add : (a b : ℕ) → 0 * a + b ≡ b
    zero_mul_add a b = omega arith

lt_pow : (n : ℕ) → n < 2 ^ n
lt_pow zero = pow_pos 0
lt_pow (suc n) =
    let h = lt_pow n in
    let p : 2 ^ n < 2 ^ suc n = pow-lt (omega arith) in
    omega arith

below_or_bit : (k d m : ℕ) → m < 2 ^ (d + k) → (m < 2 ^ k) ⊎ ((i : ℕ) × (k ≤ i) × (bit m i ≡ true))
below_or_bit k zero m h = inl (subst (λ (x : ℕ). m < 2 ^ x) (omega arith) h)
below_or_bit k (suc d) m h =
    go (λ p. below_or_bit k d m p) (subst (λ (x : ℕ). m < 2 ^ x) (omega arith) h) (bit m (d + k)) refl
  where
    go : (m < 2 ^ (d + k) → (m < 2 ^ k) ⊎ ((i : ℕ) × (k ≤ i) × (bit m i ≡ true))) → m < 2 ^ suc (d + k)
        → (b : Bool) → bit m (d + k) ≡ b → (m < 2 ^ k) ⊎ ((i : ℕ) × (k ≤ i) × (bit m i ≡ true))
    go ih p true e = inr (d + k, omega arith, e)
    go ih p false e = ih (drop_bit (d + k) m p e)

-- a word is below a power, or has a bit at or past it
pub fits_or_bit : (k m : ℕ) → (m < 2 ^ k) ⊎ ((i : ℕ) × (k ≤ i) × (bit m i ≡ true))
fits_or_bit k m = below_or_bit k m m (lt_of_lt_of_le (lt_pow m) (pow_mono (omega arith)))

-- a bit past the width is lost
pub set_out : (w m i : ℕ) → m < 2 ^ w → w ≤ i → set_bit m i % 2 ^ w ≡ m
set_out w m i h p = word_ext w _ m (mod-lt _ (pow_pos w)) h (λ j q. mod_bit w (set_bit m i) j q ∙ set_bit_lem m i j ∙ simp (ne_eqb j i (omega arith)))

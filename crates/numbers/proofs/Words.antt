-- A number in several words of b bits each: its bits, its ones, and what moving, cutting and comparing word by word make of it.
-- Assumes nothing.
use Prim.Native.Nat.{ℕ, zero, suc, ◌+◌, ◌-◌, ◌*◌, ◌/◌, ◌%◌, ◌^◌, ◌≤◌, ◌<◌, min}
use mathlib.Core.Path.{◌≡◌, refl, sym, ap, ap₂, ◌∙◌}
use mathlib.Core.Bool.{false}
use mathlib.Core.List.{List, [], ◌∷◌}
use native.Mathlib.Nat.{add-zero, mul-zero, mul-one, mul-suc, le_refl, lt_of_le_of_lt, mod-le, mod-one, zero-mod, mod-lt, mod-eq_of_lt, min-eq_left, min-eq_right, mul_assoc, mul_comm, add-mul, mul-mod_left, mul-add-mod_self_right}
use native.Mathlib.Decide.{dec_le}
use native.Mathlib.Omega.{arith}
use lib.Dec.{eqb}
use lib.ListN.{length, take, get_or, set}
use lib.Arith.{digits_lt}
use lib.Pow.{pow_pos, pow-lt, pow-add, high, low, shr-shr, shr_lt, shl-shr, mod-pow-add}
use lib.Pow as pow
use lib.Bits.{bit_or, or_block, or_zero_r}
use lib.Count.{ones, ones_cat}
use Rattle.numbers.specs.Word.{bit, set_bit, joined, split}
use Rattle.numbers.proofs.Bits.{pow_split, mod_bit, high_bit}

-- every word fits b bits
abbrev pub Words : ℕ → List ℕ → Type 0
Words b [] = Unit {0}
Words b (x ∷ xs) = (x < 2 ^ b) × Words b xs

-- ---- the words of a number, and back

-- the number of n words is below their power
pub joined_lt : (b : ℕ) (ws : List ℕ) → Words b ws → joined b ws < 2 ^ (b * length ws)
unfolding joined
joined_lt b [] h = pow_pos (b * 0)
joined_lt b (x ∷ xs) h =
    rw (mul-suc b (length xs)) (rw (pow-add 2 (b * length xs) b) (digits_lt (joined_lt b xs h.1) h.0))

-- the words that a number is split into make its low bits
pub joined_split : (b n m : ℕ) → joined b (split b n m) ≡ m % 2 ^ (b * n)
unfolding joined split
joined_split b zero m = rw (mul-zero b) (sym (mod-one m))
joined_split b (suc n) m =
    rw (mul-suc b n) (ap (λ (x : ℕ). x * 2 ^ b + m % 2 ^ b) (joined_split b n (m / 2 ^ b)) ∙ sym (mod-pow-add m (b * n) b))

-- the number that words make is split into them
pub split_joined : (b : ℕ) (ws : List ℕ) → Words b ws → split b (length ws) (joined b ws) ≡ ws
unfolding joined split
split_joined b [] h = refl
split_joined b (x ∷ xs) h =
    ap₂ (λ (y : ℕ) (ys : List ℕ). y ∷ ys) (low (joined b xs) b h.0)
    (ap (split b (length xs)) (high (joined b xs) b h.0) ∙ split_joined b xs h.1)

-- ---- one bit

low_part : (b a x i : ℕ) → x < 2 ^ b → i < b → bit (a * 2 ^ b + x) i ≡ bit x i
low_part b a x i h p = sym (mod_bit b (a * 2 ^ b + x) i p) ∙ ap (λ (y : ℕ). bit y i) (low a b h)

high_part : (b a x i : ℕ) → x < 2 ^ b → bit (a * 2 ^ b + x) (b + i) ≡ bit a i
unfolding bit
high_part b a x i h =
    ap (λ (y : ℕ). eqb (y % 2) 1) (sym (shr-shr (a * 2 ^ b + x) b i) ∙ ap (λ (y : ℕ). y / 2 ^ i) (high a b h))

zero_bit : (i : ℕ) → bit 0 i ≡ false
zero_bit i = high_bit i 0 i (pow_pos i) (le_refl i)

-- bit b * j + i of the number is bit i of word j
pub word_bit : (b : ℕ) (ws : List ℕ) (j i : ℕ) → Words b ws → i < b → bit (joined b ws) (b * j + i) ≡ bit (get_or ws j 0) i
unfolding joined
word_bit b [] j i h p = zero_bit (b * j + i) ∙ sym (zero_bit i)
word_bit b (x ∷ xs) zero i h p = ap (bit (joined b xs * 2 ^ b + x)) (omega arith) ∙ low_part b (joined b xs) x i h.0 p
word_bit b (x ∷ xs) (suc j) i h p =
    let q : b * suc j + i ≡ b + (b * j + i) = omega (arith, mul-suc b j) in
    ap (bit (joined b xs * 2 ^ b + x)) q ∙ high_part b (joined b xs) x (b * j + i) h.0 ∙ word_bit b xs j i h.1 p

-- that bit is set in word j alone
pub word_set : (b : ℕ) (ws : List ℕ) (j i : ℕ) → Words b ws → i < b → j < length ws
    → joined b (set ws j (set_bit (get_or ws j 0) i)) ≡ set_bit (joined b ws) (b * j + i)
unfolding joined set_bit
word_set b [] j i h p l = absurd (omega arith)
word_set b (x ∷ xs) zero i h p l =
    let q : b * 0 + i ≡ i = omega arith in
    let z : 2 ^ i ≡ 0 * 2 ^ b + 2 ^ i = omega arith in
    sym (ap (λ (y : ℕ). bit_or (joined b xs * 2 ^ b + x) (2 ^ y)) q ∙ ap (bit_or (joined b xs * 2 ^ b + x)) z
    ∙ or_block b (joined b xs) 0 x (2 ^ i) h.0 (pow-lt p) ∙ ap (λ (y : ℕ). y * 2 ^ b + bit_or x (2 ^ i)) (or_zero_r (joined b xs)))
word_set b (x ∷ xs) (suc j) i h p l =
    let q : b * suc j + i ≡ (b * j + i) + b = omega (arith, mul-suc b j) in
    sym (ap (λ (y : ℕ). bit_or (joined b xs * 2 ^ b + x) (2 ^ y)) q
    ∙ ap (bit_or (joined b xs * 2 ^ b + x)) (pow-add 2 (b * j + i) b ∙ sym (add-zero (2 ^ (b * j + i) * 2 ^ b)))
    ∙ or_block b (joined b xs) (2 ^ (b * j + i)) x 0 h.0 (pow_pos b)
    ∙ ap₂ (λ (y z : ℕ). y * 2 ^ b + z) (sym (word_set b xs j i h.1 p (omega arith))) (or_zero_r x))

-- words stay words where one is replaced by a word
pub set_words : (b : ℕ) (ws : List ℕ) (j x : ℕ) → Words b ws → x < 2 ^ b → Words b (set ws j x)
set_words b [] j x h p = tt
set_words b (y ∷ ys) zero x h p = (p, h.1)
set_words b (y ∷ ys) (suc j) x h p = (h.0, set_words b ys j x h.1 p)

-- ---- the ones of all the words

unfoldable pub sum_ones : List ℕ → ℕ
sum_ones [] = 0
sum_ones (x ∷ xs) = sum_ones xs + ones x

pub ones_joined : (b : ℕ) (ws : List ℕ) → Words b ws → ones (joined b ws) ≡ sum_ones ws
unfolding joined sum_ones ones
ones_joined b [] h = refl
ones_joined b (x ∷ xs) h = ones_cat b (joined b xs) x h.0 ∙ ap (λ (y : ℕ). y + ones x) (ones_joined b xs h.1)

-- ---- the low k bits, word by word

unfoldable pub cut_words : ℕ → ℕ → List ℕ → List ℕ
cut_words b k [] = []
cut_words b k (x ∷ xs) = x % 2 ^ min b k ∷ cut_words b (k - b) xs

pub cut_words_lem : (b k : ℕ) (ws : List ℕ) → Words b ws → Words b (cut_words b k ws)
unfolding cut_words
cut_words_lem b k [] h = tt
cut_words_lem b k (x ∷ xs) h = (lt_of_le_of_lt (mod-le x (2 ^ min b k)) h.0, cut_words_lem b (k - b) xs h.1)

-- v is the number that the words above make, u what is left of it
cut_step : (b k x v u : ℕ) → x < 2 ^ b → u ≡ v % 2 ^ (k - b) → u * 2 ^ b + x % 2 ^ min b k ≡ (v * 2 ^ b + x) % 2 ^ k
cut_step b k x v u h ih = go (dec_le b k)
  where
    go : Dec (b ≤ k) → u * 2 ^ b + x % 2 ^ min b k ≡ (v * 2 ^ b + x) % 2 ^ k
    go (yes p) =
        let e : k ≡ (k - b) + b = omega arith in
        rw (min-eq_left p)
        (ap₂ (λ (y z : ℕ). y * 2 ^ b + z) ih (mod-eq_of_lt h)
        ∙ sym (ap (λ (y : ℕ). (v * 2 ^ b + x) % 2 ^ y) e ∙ mod-pow-add (v * 2 ^ b + x) (k - b) b
        ∙ ap₂ (λ (y z : ℕ). y % 2 ^ (k - b) * 2 ^ b + z) (high v b h) (low v b h)))
    go (no p) =
        let e : k - b ≡ 0 = omega arith in
        let q : k ≤ b = omega arith in
        let z : u ≡ 0 = ih ∙ ap (λ (y : ℕ). v % 2 ^ y) e ∙ mod-one v in
        let o : 0 * 2 ^ b + x % 2 ^ k ≡ x % 2 ^ k = omega arith in
        rw (min-eq_right q)
        (ap (λ (y : ℕ). y * 2 ^ b + x % 2 ^ k) z ∙ o
        ∙ sym (mul-add-mod_self_right (v * 2 ^ (b - k)) (2 ^ k) x)
        ∙ ap (λ (y : ℕ). (y + x) % 2 ^ k) (mul_assoc v (2 ^ (b - k)) (2 ^ k) ∙ ap (λ (y : ℕ). v * y) (sym (pow_split k b q))))

pub cut_joined : (b k : ℕ) (ws : List ℕ) → Words b ws → joined b (cut_words b k ws) ≡ joined b ws % 2 ^ k
unfolding joined cut_words
cut_joined b k [] h = sym (zero-mod (2 ^ k))
cut_joined b k (x ∷ xs) h = cut_step b k x (joined b xs) _ h.0 (cut_joined b (k - b) xs h.1)

-- ---- moved up by r bits, word by word: c is the word below

unfoldable pub up_words : ℕ → ℕ → ℕ → List ℕ → List ℕ
up_words b r c [] = []
up_words b r c (x ∷ xs) = (x * 2 ^ r % 2 ^ b + c / 2 ^ (b - r)) ∷ up_words b r x xs

module _ (b r : ℕ) (fits : r ≤ b) where
  two : 2 ^ (b - r) * 2 ^ r ≡ 2 ^ b
  two = sym (pow_split r b fits)

  -- what stays in a word that is moved up
  pub stays : (x : ℕ) → x * 2 ^ r % 2 ^ b ≡ x % 2 ^ (b - r) * 2 ^ r
  stays x =
      let e : b ≡ (b - r) + r = omega arith in
      ap (λ (y : ℕ). x * 2 ^ r % 2 ^ y) e ∙ mod-pow-add (x * 2 ^ r) (b - r) r
      ∙ ap₂ (λ (y z : ℕ). y % 2 ^ (b - r) * 2 ^ r + z) (shl-shr x r) (mul-mod_left x (2 ^ r))
      ∙ add-zero (x % 2 ^ (b - r) * 2 ^ r)

  -- a word that is moved up is what goes to the next word and what stays
  parts : (x : ℕ) → x * 2 ^ r ≡ x / 2 ^ (b - r) * 2 ^ b + x * 2 ^ r % 2 ^ b
  parts x =
      ap (λ (y : ℕ). y * 2 ^ r) (sym (pow.split x (b - r)))
      ∙ add-mul (x / 2 ^ (b - r) * 2 ^ (b - r)) (x % 2 ^ (b - r)) (2 ^ r)
      ∙ ap₂ (λ (y z : ℕ). y + z) (mul_assoc (x / 2 ^ (b - r)) (2 ^ (b - r)) (2 ^ r) ∙ ap (λ (y : ℕ). x / 2 ^ (b - r) * y) two) (sym (stays x))

  -- what comes from the word below fits beneath what stays
  pub comes : (c : ℕ) → c < 2 ^ b → c / 2 ^ (b - r) < 2 ^ r
  comes c h = let e : r + (b - r) ≡ b = omega arith in shr_lt r (b - r) (rw e h)

  up_lt : (x c : ℕ) → c < 2 ^ b → x * 2 ^ r % 2 ^ b + c / 2 ^ (b - r) < 2 ^ b
  up_lt x c h = rw (stays x, sym two) (digits_lt (mod-lt x (pow_pos (b - r))) (comes c h))

  pub up_words_lem : (c : ℕ) (ws : List ℕ) → c < 2 ^ b → Words b ws → Words b (up_words b r c ws)
  unfolding up_words
  up_words_lem c [] hc h = tt
  up_words_lem c (x ∷ xs) hc h = (up_lt x c hc, up_words_lem x xs h.0 h.1)

  pub up_joined : (c : ℕ) (ws : List ℕ) → c < 2 ^ b → Words b ws
      → joined b (up_words b r c ws) ≡ (joined b ws * 2 ^ r + c / 2 ^ (b - r)) % 2 ^ (b * length ws)
  unfolding joined up_words
  up_joined c [] hc h = rw (mul-zero b) (sym (mod-one _))
  up_joined c (x ∷ xs) hc h =
      let v = joined b xs in
      let t = x * 2 ^ r % 2 ^ b + c / 2 ^ (b - r) in
      let y = v * 2 ^ r + x / 2 ^ (b - r) in
      let k : t < 2 ^ b = up_lt x c hc in
      let swap : v * 2 ^ b * 2 ^ r ≡ v * 2 ^ r * 2 ^ b = mul_assoc v (2 ^ b) (2 ^ r) ∙ ap (λ (z : ℕ). v * z) (mul_comm (2 ^ b) (2 ^ r)) ∙ sym (mul_assoc v (2 ^ r) (2 ^ b)) in
      let e : (v * 2 ^ b + x) * 2 ^ r + c / 2 ^ (b - r) ≡ y * 2 ^ b + t = omega (arith, add-mul (v * 2 ^ b) x (2 ^ r), add-mul (v * 2 ^ r) (x / 2 ^ (b - r)) (2 ^ b), parts x) in
      rw (mul-suc b (length xs))
      (ap (λ (z : ℕ). z * 2 ^ b + t) (up_joined x xs h.0 h.1)
      ∙ sym (ap (λ (z : ℕ). z % 2 ^ (b * length xs + b)) e ∙ mod-pow-add (y * 2 ^ b + t) (b * length xs) b
      ∙ ap₂ (λ (p q : ℕ). p % 2 ^ (b * length xs) * 2 ^ b + q) (high y b k) (low y b k)))

-- ---- moved up by j words: so many zeros come in below

abbrev pub zeros : ℕ → List ℕ → List ℕ
zeros zero ws = ws
zeros (suc j) ws = 0 ∷ zeros j ws

pub zeros_words : (b j : ℕ) (ws : List ℕ) → Words b ws → Words b (zeros j ws)
zeros_words b zero ws h = h
zeros_words b (suc j) ws h = (pow_pos b, zeros_words b j ws h)

pub zeros_joined : (b j : ℕ) (ws : List ℕ) → joined b (zeros j ws) ≡ joined b ws * 2 ^ (b * j)
unfolding joined
zeros_joined b zero ws = rw (mul-zero b) (sym (mul-one (joined b ws)))
zeros_joined b (suc j) ws =
    add-zero _ ∙ ap (λ (x : ℕ). x * 2 ^ b) (zeros_joined b j ws) ∙ mul_assoc (joined b ws) (2 ^ (b * j)) (2 ^ b)
    ∙ ap (λ (x : ℕ). joined b ws * x) (sym (pow-add 2 (b * j) b) ∙ ap (λ (x : ℕ). 2 ^ x) (sym (mul-suc b j)))

-- the lowest n words are words, and make the low bits
pub take_words : (b n : ℕ) (ws : List ℕ) → Words b ws → Words b (take n ws)
take_words b zero ws h = tt
take_words b (suc n) [] h = tt
take_words b (suc n) (x ∷ xs) h = (h.0, take_words b n xs h.1)

pub take_joined : (b n : ℕ) (ws : List ℕ) → Words b ws → joined b (take n ws) ≡ joined b ws % 2 ^ (b * n)
unfolding joined
take_joined b zero ws h = rw (mul-zero b) (sym (mod-one (joined b ws)))
take_joined b (suc n) [] h = sym (zero-mod (2 ^ (b * suc n)))
take_joined b (suc n) (x ∷ xs) h =
    let v = joined b xs in
    rw (mul-suc b n)
    (ap (λ (z : ℕ). z * 2 ^ b + x) (take_joined b n xs h.1)
    ∙ sym (mod-pow-add (v * 2 ^ b + x) (b * n) b ∙ ap₂ (λ (y z : ℕ). y % 2 ^ (b * n) * 2 ^ b + z) (high v b h.0) (low v b h.0)))

-- moved up twice within k bits
pub move_move : (k v p q n : ℕ) → p + q ≡ n → v * 2 ^ p % 2 ^ k * 2 ^ q % 2 ^ k ≡ v * 2 ^ n % 2 ^ k
move_move k v p q n e =
    let a = v * 2 ^ p in
    let swap : a / 2 ^ k * 2 ^ k * 2 ^ q ≡ a / 2 ^ k * 2 ^ q * 2 ^ k =
    mul_assoc (a / 2 ^ k) (2 ^ k) (2 ^ q) ∙ ap (λ (z : ℕ). a / 2 ^ k * z) (mul_comm (2 ^ k) (2 ^ q)) ∙ sym (mul_assoc (a / 2 ^ k) (2 ^ q) (2 ^ k)) in
    let whole : a * 2 ^ q ≡ a / 2 ^ k * 2 ^ q * 2 ^ k + a % 2 ^ k * 2 ^ q =
    ap (λ (z : ℕ). z * 2 ^ q) (sym (pow.split a k)) ∙ add-mul (a / 2 ^ k * 2 ^ k) (a % 2 ^ k) (2 ^ q) ∙ ap (λ (z : ℕ). z + a % 2 ^ k * 2 ^ q) swap in
    sym (mul-add-mod_self_right (a / 2 ^ k * 2 ^ q) (2 ^ k) (a % 2 ^ k * 2 ^ q))
    ∙ ap (λ (z : ℕ). z % 2 ^ k) (sym whole ∙ mul_assoc v (2 ^ p) (2 ^ q) ∙ ap (λ (z : ℕ). v * z) (sym (pow-add 2 p q) ∙ ap (λ (z : ℕ). 2 ^ z) e))

-- A number written in bytes and read again, at any place and of any width: little-endian, and big-endian as its mirror.
-- Assumes nothing.
use Prim.Native.Nat.{ℕ, zero, suc, ◌+◌, ◌*◌, ◌/◌, ◌%◌, ◌^◌, ◌<◌, ◌≤◌}
use mathlib.Core.List.{List, [], ◌∷◌, ◌++◌, append_assoc, reverse, reverse-cons, reverse-reverse}
use mathlib.Core.Path.{◌≡◌, refl, sym, ap, ◌∙◌}
use native.Mathlib.Numerals.{add-one}
use native.Mathlib.Nat.{zero-add, add-zero, pow-suc, mod-eq_of_lt}
use lib.Arith.{mod-mul}
use native.Mathlib.Omega.{arith}
use lib.ListN.{length, take, drop, get_or, length-reverse}
use lib.Seq.{drop-cons, get_or_at, get_or-append-add}
use Rattle.octets.specs.Fields.{field, big_field, little, big}

field_next : (x : ℕ) (s : List ℕ) (at k : ℕ) → field (x ∷ s) (at + 1) k ≡ field s at k
unfolding field
field_next x s at zero = refl
field_next x s at (suc k) = rw (field_next x s (at + 1) k) (rw add-one refl)

pub field_behind : (a s : List ℕ) (k : ℕ) → field (a ++ s) (length a) k ≡ field s 0 k
field_behind [] s k = refl
field_behind (x ∷ a) s k = rw (← (add-one (length a))) (field_next x (a ++ s) (length a) k ∙ field_behind a s k)

pow_pos256 : (k : ℕ) → 0 < 256 ^ k
pow_pos256 zero = omega arith
pow_pos256 (suc k) = rw pow-suc (omega (arith, pow_pos256 k))

pub field_little : (k n : ℕ) (c : List ℕ) → field (little k n ++ c) 0 k ≡ n % 256 ^ k
unfolding field
field_little zero n c = omega arith
field_little (suc k) n c =
    ap (λ (x : ℕ). n % 256 + 256 * x) (field_next (n % 256) (little k (n / 256) ++ c) 0 k ∙ field_little k (n / 256) c)
    ∙ omega (arith, mod-mul n {m = 256 ^ k} {c = 256} (pow_pos256 k) (omega arith), ap (λ (x : ℕ). n % x) (pow-suc 256 k))

-- k bytes of n, written behind a, are read there as n
pub field_at : (a : List ℕ) (k n : ℕ) (c : List ℕ) → n < 256 ^ k → field (a ++ (little k n ++ c)) (length a) k ≡ n
field_at a k n c h = field_behind a (little k n ++ c) k ∙ field_little k n c ∙ mod-eq_of_lt h

-- k bytes are k
pub little_length : (k n : ℕ) → length (little k n) ≡ k
little_length zero n = refl
little_length (suc k) n = ap suc (little_length k (n / 256))

-- k bytes of s are those of the number in them
pub little_field : (s : List ℕ) (at k : ℕ) → ((i : ℕ) → get_or s i 0 < 256) → at + k ≤ length s
    → little k (field s at k) ≡ take k (drop at s)
unfolding field
little_field s at zero b h = refl
little_field s at (suc k) b h =
    let n : ℕ = field s at (suc k) in
    let low : n % 256 ≡ get_or s at 0 = omega (arith, b at) in
    let high : n / 256 ≡ field s (at + 1) k = omega (arith, b at) in
    rw (low, high, little_field s (at + 1) k b (omega arith), add-one, drop-cons s at 0 (omega arith))

-- two numbers with the same k bytes are one
pub little_one : (k a b : ℕ) → a < 256 ^ k → b < 256 ^ k → little k a ≡ little k b → a ≡ b
little_one k a b p q e =
    sym (field_at [] k a [] p) ∙ ap (λ (l : List ℕ). field (l ++ []) 0 k) e ∙ field_at [] k b [] q

-- a byte of the number read from k bytes is the byte at that place
pub byte_field : (s : List ℕ) → ((j : ℕ) → get_or s j 0 < 256) → (at k i : ℕ) → i < k → get_or (little k (field s at k)) i 0 ≡ get_or s (at + i) 0
unfolding field
byte_field s b at zero i h = absurd (omega arith)
byte_field s b at (suc k) zero h = rw add-zero (omega (arith, b at))
byte_field s b at (suc k) (suc i) h =
    let rest : (get_or s at 0 + 256 * field s (at + 1) k) / 256 ≡ field s (at + 1) k = omega (arith, b at) in
    rw rest (byte_field s b (at + 1) k i (omega arith) ∙ ap (λ (j : ℕ). get_or s j 0) (omega arith))

-- ---- big-endian

-- the bytes of a number big-endian are those little-endian, the last of them first
pub big_reverse : (k n : ℕ) → big k n ≡ reverse (little k n)
big_reverse zero n = refl
big_reverse (suc k) n =
    ap (λ (l : List ℕ). l ++ (n % 256 ∷ [])) (big_reverse k (n / 256)) ∙ sym (reverse-cons (n % 256) (little k (n / 256)))

-- k bytes are k
pub big_length : (k n : ℕ) → length (big k n) ≡ k
big_length k n = ap length (big_reverse k n) ∙ length-reverse (little k n) ∙ little_length k n

-- two numbers with the same k bytes are one
pub big_one : (k a b : ℕ) → a < 256 ^ k → b < 256 ^ k → big k a ≡ big k b → a ≡ b
big_one k a b p q e =
    let r : reverse (little k a) ≡ reverse (little k b) = sym (big_reverse k a) ∙ e ∙ big_reverse k b in
    little_one k a b p q (sym (reverse-reverse (little k a)) ∙ ap reverse r ∙ reverse-reverse (little k b))

-- what stands before a number does not count
pub big_field_behind : (a s : List ℕ) (k : ℕ) → big_field (a ++ s) (length a) k ≡ big_field s 0 k
unfolding big_field
big_field_behind a s zero = refl
big_field_behind a s (suc k) = rw (big_field_behind a s k, get_or-append-add a s k 0, zero-add k)

-- k bytes of n are read as n, but for what they can not hold
pub big_field_big : (k n : ℕ) (c : List ℕ) → big_field (big k n ++ c) 0 k ≡ n % 256 ^ k
unfolding big_field
big_field_big zero n c = omega arith
big_field_big (suc k) n c =
    let front : List ℕ = big k (n / 256) in
    ap (λ (l : List ℕ). 256 * big_field l 0 k + get_or l (0 + k) 0) (append_assoc front (n % 256 ∷ []) c)
    ∙ ap (λ (x : ℕ). 256 * x + get_or (front ++ (n % 256 ∷ c)) (0 + k) 0) (big_field_big k (n / 256) (n % 256 ∷ c))
    ∙ ap (λ (x : ℕ). 256 * ((n / 256) % 256 ^ k) + x) (get_or_at front (n % 256) c 0 (0 + k) (big_length k (n / 256) ∙ sym (zero-add k)))
    ∙ omega (arith, mod-mul n {m = 256 ^ k} {c = 256} (pow_pos256 k) (omega arith), ap (λ (x : ℕ). n % x) (pow-suc 256 k))

-- k bytes of n, written big-endian behind a, are read there as n
pub big_field_at : (a : List ℕ) (k n : ℕ) (c : List ℕ) → n < 256 ^ k → big_field (a ++ (big k n ++ c)) (length a) k ≡ n
big_field_at a k n c h = big_field_behind a (big k n ++ c) k ∙ big_field_big k n c ∙ mod-eq_of_lt h

-- Nonces: twelve bytes, and under one IV another for each number.
-- Assumes nothing.
use Prim.Native.Nat.{ℕ, zero, suc, ◌+◌, ◌^◌, ◌<◌}
use mathlib.Core.Bool.{Bool, true, false, cond}
use mathlib.Core.List.{List}
use mathlib.Core.Path.{◌≡◌, refl, sym, ap, ◌∙◌}
use native.Mathlib.Omega.{arith}
use lib.Bits.{bit_xor}
use lib.ListN.{length, get_or, take, drop}
use lib.Seq.{ext_get_or}
use Rattle.answers.proofs.Tests.{by_cases}
use Rattle.octets.proofs.Endian.{little_one, big_one}
use Rattle.octets.proofs.Xor.{xor_cancel}
use Rattle.record.specs.declared.setting.Setting.{Setting}
use Rattle.record.specs.Setting.{number_first}
use Rattle.record.specs.Nonce.{each, spread_first, spread_last, spread, nonce_of}

-- ---- XOR with one IV

each_length : (f : ℕ → ℕ) (i k : ℕ) → length (each f i k) ≡ k
each_length f i zero = refl
each_length f i (suc k) = ap suc (each_length f (i + 1) k)

each_at : (f : ℕ → ℕ) (i k j : ℕ) → j < k → get_or (each f i k) j 0 ≡ f (i + j)
each_at f i zero j h = absurd (omega arith)
each_at f i (suc k) zero h = ap f (omega arith)
each_at f i (suc k) (suc j) h = each_at f (i + 1) k j (omega arith) ∙ ap f (omega arith)

-- functions that agree below the end give one list
pub each_same : (f g : ℕ → ℕ) (i k : ℕ) → ((j : ℕ) → j < i + k → f j ≡ g j) → each f i k ≡ each g i k
each_same f g i zero e = refl
each_same f g i (suc k) e = rw (e i (omega arith), each_same f g (i + 1) k (λ j h. e j (omega arith)))

-- each byte of a XORed with that of the IV
abbrev pub masked : List ℕ → List ℕ → ℕ → ℕ
masked iv a i = bit_xor (get_or a i 0) (get_or iv i 0)

-- lists of k bytes that are equal once XORed with one IV are equal
pub masked_one : (iv a b : List ℕ) (k : ℕ) → length a ≡ k → length b ≡ k → each (masked iv a) 0 k ≡ each (masked iv b) 0 k → a ≡ b
masked_one iv a b k la lb e =
    ext_get_or 0 a b (la ∙ sym lb)
    (λ i h. xor_cancel (get_or a i 0) (get_or b i 0) (get_or iv i 0) (at a i (omega arith) ∙ ap (λ (l : List ℕ). get_or l i 0) e ∙ sym (at b i (omega arith))))
  where
    at : (x : List ℕ) (i : ℕ) → i < k → masked iv x i ≡ get_or (each (masked iv x) 0 k) i 0
    at x i h = ap (masked iv x) (omega arith) ∙ sym (each_at (masked iv x) 0 k i h)

-- ---- the number's bytes

-- a number is spread over twelve bytes, in either layout
pub spread_length : (s : Setting) (n : ℕ) → length (spread s n) ≡ 12
unfolding spread
spread_length s n = by_cases (λ (l : List ℕ). length l ≡ 12) (number_first s) (spread_first n) (spread_last n) (λ h. refl) (λ h. refl)

-- numbers that are spread alike are one, in either layout
pub spread_one : (s : Setting) (a b : ℕ) → a < 2 ^ 64 → b < 2 ^ 64 → spread s a ≡ spread s b → a ≡ b
unfolding spread
spread_one s a b p q = go (number_first s)
  where
    go : (first : Bool) → cond first (spread_first a) (spread_last a) ≡ cond first (spread_first b) (spread_last b) → a ≡ b
    go true e = little_one 8 a b p q (ap (take 8) e)
    go false e = big_one 8 a b p q (ap (drop 4) e)

-- ---- nonces

-- a nonce has twelve bytes
pub nonce_length : (s : Setting) (iv : List ℕ) (n : ℕ) → length (nonce_of s iv n) ≡ 12
unfolding nonce_of
nonce_length s iv n = each_length (masked iv (spread s n)) 0 12

-- under one IV different numbers have different nonces
pub nonce_distinct : (s : Setting) (iv : List ℕ) (a b : ℕ) → a < 2 ^ 64 → b < 2 ^ 64 → nonce_of s iv a ≡ nonce_of s iv b → a ≡ b
unfolding nonce_of
nonce_distinct s iv a b p q e =
    spread_one s a b p q (masked_one iv (spread s a) (spread s b) 12 (spread_length s a) (spread_length s b) e)

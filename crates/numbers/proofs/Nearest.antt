-- The record's number is the one whole number near e that has its low 16 bits, raised by 65536 where that is negative.
-- Assumes nothing.
use Prim.Native.Nat.{ℕ, suc, ◌+◌, ◌-◌, ◌%◌, ◌≤◌, ◌<◌, max}
use mathlib.Core.Path.{◌≡◌, sym, ap, ◌∙◌}
use mathlib.Core.Logic.{◌⊎◌, inl, inr}
use native.Mathlib.Omega.{arith}
use native.Mathlib.Decide.{dec_le, dec_lt}
use lib.Dec.{leb→le, le→leb}
use lib.IntN.{ℤ, pos, negsuc}
use lib.Signed.{le_z_yes}
use borrow.Author.Tests.{lt-ltb, le-ltb}
use Rattle.numbers.specs.Number.{whole, nearest}
use Rattle.numbers.specs.Whole.{Near, low16, raised, Reached}
use Rattle.numbers.proofs.Cases.{nearest_pos, nearest_neg}

-- `Near`, as bounds on natural numbers
abbrev Inside : ℕ → ℤ → Type 0
Inside e (pos n) = (e ≤ n + 32768) × (n ≤ e + 32767)
Inside e (negsuc k) = e + (k + 1) ≤ 32768

to_near : (e : ℕ) (z : ℤ) → Inside e z → Near e z
to_near e (pos n) h = go (dec_lt e 32768)
  where
    go : Dec (e < 32768) → Near e (pos n)
    go (yes p) = record { least = rw (lt-ltb e 32768 p) (le_z_yes tt); most = le_z_yes (le→leb n (e + 32767) h.1) }
    go (no p) = let q : 32768 ≤ e = omega arith in record {
      least = rw (le-ltb e 32768 q) (le_z_yes (le→leb (e - 32768) n (omega arith)));
      most = le_z_yes (le→leb n (e + 32767) h.1);
    }
to_near e (negsuc k) h = let q : e < 32768 = omega arith in record {
  least = rw (lt-ltb e 32768 q) (le_z_yes (le→leb k (32768 - suc e) (omega arith)));
  most = le_z_yes tt;
}

from_near : (e : ℕ) (z : ℤ) → Near e z → Inside e z
from_near e (pos n) h = go (dec_lt e 32768)
  where
    most : n ≤ e + 32767
    most = leb→le n (e + 32767) h.most.le

    go : Dec (e < 32768) → Inside e (pos n)
    go (yes p) = (omega arith, most)
    go (no p) =
        let q : 32768 ≤ e = omega arith in
        let l = leb→le (e - 32768) n (rw (le-ltb e 32768 q) at h.least).le in
        (omega arith, most)
from_near e (negsuc k) h = go (dec_lt e 32768)
  where
    go : Dec (e < 32768) → Inside e (negsuc k)
    go (yes p) = let l = leb→le k (32768 - suc e) (rw (lt-ltb e 32768 p) at h.least).le in omega arith
    go (no p) = let q : 32768 ≤ e = omega arith in absurd (rw (le-ltb e 32768 q) at h.least).le

-- there is one
pub nearest_is : (e low : ℕ) → low < 65536 → (z : ℤ) × Near e z × (low16 z ≡ low) × (raised z ≡ nearest e low)
unfolding low16 raised whole
nearest_is e low h = go (dec_le 65536 (whole e low))
  where
    go : Dec (65536 ≤ whole e low) → (z : ℤ) × Near e z × (low16 z ≡ low) × (raised z ≡ nearest e low)
    go (yes p) = (pos (whole e low - 65536), to_near e (pos (whole e low - 65536)) (omega arith, omega arith), omega arith, sym (nearest_pos e low p))
    go (no p) =
        let q : whole e low < 65536 = omega arith in
        (negsuc (65535 - whole e low), to_near e (negsuc (65535 - whole e low)) (omega arith), omega arith, omega (arith, nearest_neg e low q))

-- there is no other
one_inside : (e : ℕ) (y z : ℤ) → Inside e y → Inside e z → low16 y ≡ low16 z → y ≡ z
unfolding low16
one_inside e (pos a) (pos b) p q h = ap pos (omega arith)
one_inside e (pos a) (negsuc b) p q h = absurd (omega arith)
one_inside e (negsuc a) (pos b) p q h = absurd (omega arith)
one_inside e (negsuc a) (negsuc b) p q h = ap negsuc (omega arith)

-- two whole numbers near e with the same low bits are one
pub nearest_only : (e : ℕ) (y z : ℤ) → Near e y → Near e z → low16 y ≡ low16 z → y ≡ z
nearest_only e y z p q h = one_inside e y z (from_near e y p) (from_near e z q) h

-- so whatever whole number near e has those bits, raised, is the number
pub nearest_of : (e low : ℕ) (z : ℤ) → low < 65536 → Near e z → low16 z ≡ low → nearest e low ≡ raised z
nearest_of e low z h p q =
    let o = nearest_is e low h in
    sym o.3 ∙ ap raised (nearest_only e o.0 z o.1 p (o.2 ∙ sym q))

-- the same with the number in hand: near e, or raised by 65536
pub near_is : (e low n : ℕ) → low < 65536 → e ≤ n + 32768 → n ≤ e + 32767 → n % 65536 ≡ low → n ≡ nearest e low
unfolding low16 raised
near_is e low n h p q r = sym (nearest_of e low (pos n) h (to_near e (pos n) (p, q)) r)

-- a number below 65536 that is too far past e stands for a negative one
pub raised_is : (e n : ℕ) → n < 65536 → e + 32768 ≤ n → n ≡ nearest e n
unfolding low16 raised
raised_is e n h p = omega (arith, nearest_of e n (negsuc (65535 - n)) h (to_near e (negsuc (65535 - n)) (omega arith)) (omega arith))

-- the number meant has the low bits that were given
pub nearest_low : (e low : ℕ) → low < 65536 → nearest e low % 65536 ≡ low
unfolding low16 raised
nearest_low e low h =
    let o = nearest_is e low h in
    go o.0 (from_near e o.0 o.1) o.2 o.3
  where
    go : (z : ℤ) → Inside e z → low16 z ≡ low → raised z ≡ nearest e low → nearest e low % 65536 ≡ low
    go (pos n) p q r = omega arith
    go (negsuc k) p q r = omega arith

-- a number stays the nearest to its own low bits once it is marked
pub nearest_again : (e low : ℕ) → low < 65536 → nearest (max e (nearest e low + 1)) low ≡ nearest e low
unfolding low16 raised
nearest_again e low h =
    let o = nearest_is e low h in
    go o.0 (from_near e o.0 o.1) o.2 o.3
  where
    go : (z : ℤ) → Inside e z → low16 z ≡ low → raised z ≡ nearest e low → nearest (max e (nearest e low + 1)) low ≡ nearest e low
    go (pos n) p q r = sym (near_is (max e (nearest e low + 1)) low (nearest e low) h (omega arith) (omega arith) (omega arith))
    go (negsuc k) p q r = sym (near_is (max e (nearest e low + 1)) low (nearest e low) h (omega arith) (omega arith) (omega arith))

-- only the low 16 bits of what was given count
pub nearest_cut : (e low : ℕ) → nearest e low ≡ nearest e (low % 65536)
unfolding nearest whole
nearest_cut e low =
    let z : (low + 98304 - e % 65536) % 65536 ≡ (low % 65536 + 98304 - e % 65536) % 65536 = omega arith in
    rw z

-- ---- which numbers are found from their own low bits

reached_only : (e n : ℕ) → nearest e (n % 65536) ≡ n → Reached e n
unfolding low16 raised
reached_only e n h =
    let o = nearest_is e (n % 65536) (omega arith) in
    go o.0 (from_near e o.0 o.1) (o.3 ∙ h)
  where
    go : (z : ℤ) → Inside e z → raised z ≡ n → Reached e n
    go (pos k) p r = (omega arith, inl (omega arith))
    go (negsuc k) p r = (omega arith, inr (omega arith))

reached_near : (e n : ℕ) → e ≤ n + 32768 → n ≤ e + 32767 → nearest e (n % 65536) ≡ n
reached_near e n p q = sym (near_is e (n % 65536) n (omega arith) p q (omega arith))

reached_is : (e n : ℕ) → e ≤ n + 32768 → (n ≤ e + 32767) ⊎ (n ≤ 65535) → nearest e (n % 65536) ≡ n
reached_is e n p (inl q) = reached_near e n p q
reached_is e n p (inr q) = go (dec_le n (e + 32767))
  where
    go : Dec (n ≤ e + 32767) → nearest e (n % 65536) ≡ n
    go (yes r) = reached_near e n p r
    go (no r) = let s : n % 65536 ≡ n = omega arith in ap (nearest e) s ∙ sym (raised_is e n (omega arith) (omega arith))

-- the number found from the low bits of n is n exactly where n is within reach
pub near_exactly : (e n : ℕ) → (nearest e (n % 65536) ≡ n → Reached e n) × (Reached e n → nearest e (n % 65536) ≡ n)
near_exactly e n = (reached_only e n, λ h. reached_is e n h.0 h.1)

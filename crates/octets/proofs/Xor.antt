-- XOR with one number loses nothing, and XOR goes byte by byte.
-- Assumes nothing.
use Prim.Native.Nat.{ℕ, zero, suc, ◌/◌, ◌<◌}
use mathlib.Core.List.{List}
use mathlib.Core.Path.{◌≡◌, refl, sym, ap, ◌∙◌}
use native.Mathlib.Nat.{zero-add}
use lib.Bits.{bit_xor, xor_assoc, xor_self, xor_zero_r, xor_shr, xor_mod, xor_comm}
use lib.ListN.{get_or}
use Rattle.octets.proofs.Endian.{byte_field}
use Rattle.octets.specs.Fields.{field, little}

xor_back : (a y : ℕ) → bit_xor (bit_xor a y) y ≡ a
xor_back a y = rw (xor_assoc a y y, xor_self y, xor_zero_r a) refl

-- numbers that are equal once XORed with y are equal
pub xor_cancel : (a b y : ℕ) → bit_xor a y ≡ bit_xor b y → a ≡ b
xor_cancel a b y e = sym (xor_back a y) ∙ ap (λ x. bit_xor x y) e ∙ xor_back b y

-- a byte of the XOR of two numbers is the XOR of their bytes at that place
pub xor_little : (k a b i : ℕ) → get_or (little k (bit_xor a b)) i 0 ≡ bit_xor (get_or (little k a) i 0) (get_or (little k b) i 0)
xor_little zero a b i = refl
xor_little (suc k) a b zero = xor_mod a b 8
xor_little (suc k) a b (suc i) = rw (xor_shr a b 8) (xor_little k (a / 256) (b / 256) i)

-- a byte of n XORed with the number read from the first k bytes is n's byte XORed with the one read
pub xor_field : (s : List ℕ) → ((j : ℕ) → get_or s j 0 < 256) → (k n i : ℕ) → i < k
    → get_or (little k (bit_xor (field s 0 k) n)) i 0 ≡ bit_xor (get_or (little k n) i 0) (get_or s i 0)
xor_field s b k n i h =
    xor_little k (field s 0 k) n i
    ∙ xor_comm (get_or (little k (field s 0 k)) i 0) (get_or (little k n) i 0)
    ∙ ap (bit_xor (get_or (little k n) i 0)) (rw zero-add at (byte_field s b 0 k i h))

-- The gap count from the count of a word's ones, at any width.
-- Assumes nothing.
use Prim.Native.Nat.{ℕ, zero, suc, ◌+◌, ◌-◌, ◌/◌, ◌%◌, ◌^◌, ◌≤◌, ◌<◌, min}
use mathlib.Core.Path.{◌≡◌, refl, sym, ap, ap₂, ◌∙◌}
use mathlib.Core.Bool.{Bool, not, cond}
use native.Mathlib.Nat.{mod-one, mod-lt, zero-lt-suc}
use native.Mathlib.Numerals.{one-add}
use native.Mathlib.Omega.{arith}
use lib.Dec.{eqb}
use lib.Pow.{pow_pos, mod-pow-add}
use lib.Count.{ones, ones_cat, ones-le}
use Rattle.numbers.specs.Number.{count, gap_count}
use Rattle.numbers.specs.Word.{bit}
use Rattle.numbers.specs.Window.{marked, gaps}
use Rattle.numbers.proofs.Marking.{marked_at}

-- one bit: it is clear or it is counted
one_bit : (b : ℕ) → b < 2 → cond (not (eqb b 1)) 1 0 + ones b ≡ 1
unfolding ones
one_bit zero h = refl
one_bit (suc zero) h = refl
one_bit (suc (suc b)) h = absurd (omega arith)

-- of the k low bits, those that are clear and those that are set make k
clear_and_set : (m k : ℕ) → count (λ (i : ℕ). not (bit m i)) k + ones (m % 2 ^ k) ≡ k
unfolding count bit ones
clear_and_set m zero = ap (λ (x : ℕ). 0 + ones x) (mod-one m)
clear_and_set m (suc k) =
    let low : ones (m % 2 ^ suc k) ≡ ones (m / 2 ^ k % 2) + ones (m % 2 ^ k) =
    ap (λ (x : ℕ). ones (m % 2 ^ x)) (sym (one-add k)) ∙ ap ones (mod-pow-add m 1 k)
    ∙ ones_cat k (m / 2 ^ k % 2) (m % 2 ^ k) (mod-lt m (pow_pos k)) in
    let ih = clear_and_set m k in
    let b = one_bit (m / 2 ^ k % 2) (mod-lt (m / 2 ^ k) (zero-lt-suc 1)) in
    omega arith

-- two tests that agree below k count alike
count_same : (p q : ℕ → Bool) (k : ℕ) → ((i : ℕ) → i < k → p i ≡ q i) → count p k ≡ count q k
unfolding count
count_same p q zero h = refl
count_same p q (suc k) h =
    ap₂ (λ (x : ℕ) (b : Bool). x + cond b 1 0) (count_same p q k (λ i l. h i (omega arith))) (h k (omega arith))

-- two memories that agree within the width have the same gaps
pub gaps_agree : (w e : ℕ) (seen other : ℕ → Bool) → ((k : ℕ) → e ≤ k + w → seen k ≡ other k) → gap_count w e seen ≡ gap_count w e other
unfolding gap_count
gaps_agree w e seen other h =
    count_same (λ (i : ℕ). not (seen (e - 1 - i))) (λ (i : ℕ). not (other (e - 1 - i))) (min w e)
    (λ i p. ap not (h (e - 1 - i) (omega arith)))

-- the gaps are the clear bits
gaps_bits : (w e m : ℕ) → count (λ (i : ℕ). not (bit m i)) (min w e) ≡ gaps w e m
unfolding gaps gap_count
gaps_bits w e m =
    count_same (λ (i : ℕ). not (bit m i)) (λ (i : ℕ). not (marked e m (e - 1 - i))) (min w e)
    (λ i h. ap not (ap (bit m) (omega arith) ∙ sym (marked_at e m (e - 1 - i) (omega arith))))

-- of the low bits that the width and e leave, those that are not ones
pub gaps_ones : (w e m : ℕ) {k : ℕ} → k ≡ min w e → k - ones (m % 2 ^ k) ≡ gaps w e m
gaps_ones w e m {k} h =
    let c = clear_and_set m (min w e) in
    let g = gaps_bits w e m in
    rw h (omega arith)

-- k low bits have at most k ones
pub low_ones : (k m : ℕ) → ones (m % 2 ^ k) ≤ k
low_ones k m = ones-le k (m % 2 ^ k) (mod-lt m (pow_pos k))

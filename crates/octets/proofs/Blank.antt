-- When the first bytes of a list are blank.
-- Assumes nothing.
use Prim.Native.Nat.{ℕ, zero, suc, ◌<◌}
use mathlib.Core.List.{List}
use mathlib.Core.Path.{◌≡◌, refl, sym, ap, ◌∙◌}
use native.Mathlib.Omega.{arith}
use borrow.Author.Count.{below_more}
use lib.ListN.{length, get_or, replicate, length-replicate, get_or-replicate}
use lib.Seq.{ext_get_or}
use lib.Dec.{eqb}
use lib.Pointwise.{pointwise, bytes_decides}
use Rattle.std.proofs.lemmas.Bool.{true_from_ne_false}
use Rattle.std.proofs.lemmas.Bool.Decides.{same_from_decides}
use Rattle.answers.specs.Reasons.{Tells}
use Rattle.answers.proofs.Tests.{true_not_false, tells_eq, tells_and}
use Rattle.octets.specs.Fields.{blank}

-- blank n says that each of the first n bytes is 0
pub blank_bytes : (n : ℕ) (s : List ℕ) → Tells (blank n s) ((i : ℕ) → i < n → get_or s i 0 ≡ 0)
unfolding blank
blank_bytes zero s = record { holds = λ e i h. absurd (omega arith); fails = λ e p. true_not_false refl e }
blank_bytes (suc n) s =
    let t = tells_and (blank_bytes n s) (tells_eq (get_or s n 0) 0) in
    record {
      holds = λ e i h. below_more _ n (t.holds e).0 (t.holds e).1 i (omega arith);
      fails = λ e p. t.fails e ((λ i h. p i (omega arith)), p n (omega arith));
    }

-- for a list of n bytes, that it is n zeros
pub blank_list : (n : ℕ) (s : List ℕ) → length s ≡ n → Tells (blank n s) (s ≡ replicate n 0)
blank_list n s h =
    let t = blank_bytes n s in
    record {
      holds =
          λ e. ext_get_or 0 s (replicate n 0) (h ∙ sym (length-replicate n 0))
          (λ i l. t.holds e i (omega arith) ∙ sym (get_or-replicate n i 0 0 (omega arith)));
      fails = λ e p. t.fails e (λ i l. ap (λ (x : List ℕ). get_or x i 0) p ∙ get_or-replicate n i 0 0 l);
    }

-- it is what a comparison with n zeros answers
pub blank_test : (n : ℕ) (s : List ℕ) → length s ≡ n → pointwise eqb s (replicate n 0) ≡ blank n s
blank_test n s h =
    let t = blank_list n s h in
    let z : List ℕ = replicate n 0 in
    same_from_decides {P = s ≡ z} (pointwise eqb s z) (blank n s) (bytes_decides s z)
    (t.holds, λ p. true_from_ne_false (blank n s) (λ e. t.fails e p))

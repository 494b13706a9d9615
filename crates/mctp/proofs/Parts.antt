-- A byte and the rest put behind it are the two in one, and what `behind` hands out on a refusal and else.
-- Assumes nothing.
use Prim.Native.Nat.{ℕ, ◌<◌, zero-le}
use mathlib.Core.List.{List, [], ◌∷◌}
use mathlib.Core.Path.{◌≡◌, refl, sym, ap, ◌∙◌}
use native.Mathlib.Omega.{arith}
use lib.ListN.{length, drop, set, length-set}
use lib.Seq.{sets-eq}
use Rattle.answers.proofs.Given.{given_ok, given_no}
use Rattle.octets.specs.Parts.{over, put}
use Rattle.octets.proofs.Puts.{put_fits, over_over}
use Rattle.mctp.specs.Led.{behind}

-- ---- a byte and the rest

-- the byte is stored, and the rest put behind it, which is the two in one
pub byte_then_rest : (byte : ℕ) (rest out : List ℕ) → length rest < length out → put (set out 0 byte) 1 rest ≡ over out 0 (byte ∷ rest)
byte_then_rest byte rest out h =
    let one : set out 0 byte ≡ over out 0 (byte ∷ []) = sets-eq (byte ∷ []) out 0 (omega arith) in
    sym (put_fits (set out 0 byte) 1 rest (rw length-set (omega arith)))
    ∙ ap (λ (l : List ℕ). over l 1 rest) one
    ∙ over_over out 0 (byte ∷ []) rest 1 zero-le refl

-- ---- what stands behind a byte

module _ (why : ℕ) (bytes : List ℕ) where
  -- on a refusal nothing is handed out
  pub behind_no : (why ≡ 0 → ⊥) → [] ≡ behind why bytes
  unfolding behind
  behind_no h = sym (given_no (drop 1 bytes) (λ (k : ℕ). []) why h)

  -- with the answer 0 it is all behind the first byte
  pub behind_ok : why ≡ 0 → drop 1 bytes ≡ behind why bytes
  unfolding behind
  behind_ok e = sym (given_ok (drop 1 bytes) (λ (k : ℕ). []) why e)

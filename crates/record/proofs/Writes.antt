-- Writes of one part after the other.
-- Assumes nothing.
use Prim.Native.Nat.{ℕ, ◌+◌, ◌≤◌, zero-le}
use mathlib.Core.Bool.{true, false}
use mathlib.Core.List.{List, ◌++◌}
use mathlib.Core.Path.{◌≡◌, refl, sym, ◌∙◌}
use native.Mathlib.Nat.{add_assoc}
use native.Mathlib.Omega.{arith}
use lib.ListN.{length, length-append}
use Rattle.octets.specs.Fields.{little}
use Rattle.octets.specs.Parts.{over}
use Rattle.octets.proofs.Puts.{over_over}
use Rattle.record.specs.declared.setting.Setting.{Setting}
use Rattle.record.specs.Setting.{has_partial}
use Rattle.record.specs.Shape.{head_len}
use Rattle.record.specs.Header.{head_of}
use Rattle.record.proofs.Heads.{head_length, partial_head, bare_head}

-- a header without a partial number
pub bare_written : (d d1 d2 : List ℕ) (s : Setting) (n len : ℕ) → has_partial s ≡ false → d1 ≡ over d 0 (little 4 s.session)
    → d2 ≡ over d1 4 (little 2 len) → d2 ≡ over d 0 (head_of s n len)
bare_written d d1 d2 s n len h e1 e2 =
    e2 ∙ rw (e1, bare_head s n len h) (over_over d 0 (little 4 s.session) (little 2 len) 4 zero-le refl)

module _ (d d1 d2 d3 : List ℕ) where
  -- a header with one
  pub head_written : (s : Setting) (n len : ℕ) → has_partial s ≡ true → d1 ≡ over d 0 (little 4 s.session) → d2 ≡ over d1 4 (little 2 n)
      → d3 ≡ over d2 6 (little 2 len) → d3 ≡ over d 0 (head_of s n len)
  head_written s n len h e1 e2 e3 =
      let two : d2 ≡ over d 0 (little 4 s.session ++ little 2 n) =
      e2 ∙ rw e1 (over_over d 0 (little 4 s.session) (little 2 n) 4 zero-le refl) in
      e3 ∙ rw (two, partial_head s n len h) (over_over d 0 (little 4 s.session ++ little 2 n) (little 2 len) 6 zero-le refl)

  pub sealed_written : (at : ℕ) (p a r : List ℕ) → at ≤ length d → d1 ≡ over d at p → d2 ≡ over d1 (at + length p) a
      → d3 ≡ over d2 (at + length p + length a) r → d3 ≡ over d at (p ++ a ++ r)
  sealed_written at p a r h e1 e2 e3 =
      let two : d2 ≡ over d at (p ++ a) = e2 ∙ rw e1 (over_over d at p a (at + length p) h refl) in
      e3 ∙ rw two (over_over d at (p ++ a) r (at + length p + length a) h (rw length-append (sym (add_assoc at (length p) (length a)))))

-- what stands behind the header
pub body_written : (d d1 d2 : List ℕ) (s : Setting) (n len : ℕ) (body : List ℕ) → d1 ≡ over d 0 (head_of s n len)
    → d2 ≡ over d1 (head_len s) body → d2 ≡ over d 0 (head_of s n len ++ body)
body_written d d1 d2 s n len body e1 e2 = e2 ∙ rw e1 (over_over d 0 (head_of s n len) body (head_len s) zero-le (omega (arith, head_length s n len)))

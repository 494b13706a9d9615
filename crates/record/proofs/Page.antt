-- The values that page 01 gives to the names of the shape.
-- Assumes nothing.
use Prim.Native.Nat.{ℕ, ◌+◌, ◌≤◌}
use mathlib.Core.Bool.{Bool, true, false}
use lib.Dec.{eqb}
use borrow.Author.Tests.{eqb-true, eqb-false}
use mathlib.Core.Logic.{◌⊎◌, inl, inr}
use mathlib.Core.Path.{◌≡◌, refl}
use native.Mathlib.Omega.{arith}
use Rattle.numbers.specs.Contract.{width_of}
use Rattle.numbers.proofs.Laws.{width_kept}
use Rattle.record.specs.declared.setting.Setting.{Setting}
use Rattle.record.specs.Setting.{auth_only, has_partial, bad_setting, window_width, rule_of}
use Rattle.record.specs.Shape.{head_len, shortest, mac_len, inner_len, most_length, least}
use Rattle.record.specs.Write.{body_len, length_for}
use Rattle.record.proofs.Heads.{head_least, partial_length, bare_length}
use Rattle.record.proofs.Told.{bad_setting_lem}

pub record Values (s : Setting) : Type 0 where
  pub header : has_partial s ≡ true → head_len s ≡ 8
  pub bare : has_partial s ≡ false → head_len s ≡ 6
  pub inner : inner_len s ≡ 2
  pub most : most_length s ≡ 65535
  pub window : window_width s ≡ s.width
  -- no header is shorter
  pub short : shortest ≤ head_len s
  -- the least Length in mode 0 and in mode 1
  pub least_clear : auth_only s ≡ true → least s ≡ mac_len s
  pub least_sealed : auth_only s ≡ false → least s ≡ 2 + mac_len s
  -- Length in mode 0 and in mode 1, of p bytes of data and q random bytes
  pub clear : auth_only s ≡ true → (p q : ℕ) → length_for s p q ≡ p + mac_len s
  pub sealed : auth_only s ≡ false → (p q : ℕ) → length_for s p q ≡ 2 + p + q + mac_len s

pub values : (s : Setting) → Values s
unfolding shortest inner_len most_length least window_width body_len
values s = record {
  header = partial_length s;
  bare = bare_length s;
  inner = refl;
  most = refl;
  window = refl;
  short = head_least s;
  least_clear = λ a. rw a;
  least_sealed = λ a. rw a;
  clear = λ a p q. rw a;
  sealed = λ a p q. rw a;
}

-- ---- the MAC's length

-- it is never above 16
pub mac_most : (s : Setting) → mac_len s ≤ 16
unfolding mac_len
mac_most s = omega arith

-- that of page 01
pub mac_page : (s : Setting) → s.mac ≡ 16 → mac_len s ≡ 16
unfolding mac_len
mac_page s h = omega arith

-- of a channel it is what was chosen at open: 8, 12 or 16
pub mac_chosen : (s : Setting) → bad_setting s ≡ false → (mac_len s ≡ s.mac) × ((s.mac ≡ 8) ⊎ (s.mac ≡ 12) ⊎ (s.mac ≡ 16))
unfolding mac_len
mac_chosen s g = go (eqb s.mac 8) (eqb s.mac 12) (eqb s.mac 16) refl refl refl
  where
    go : (a b c : Bool) → eqb s.mac 8 ≡ a → eqb s.mac 12 ≡ b → eqb s.mac 16 ≡ c
        → (mac_len s ≡ s.mac) × ((s.mac ≡ 8) ⊎ (s.mac ≡ 12) ⊎ (s.mac ≡ 16))
    go true b c p q r = let e : s.mac ≡ 8 = eqb-true _ _ p in (omega arith, inl e)
    go false true c p q r = let e : s.mac ≡ 12 = eqb-true _ _ q in (omega arith, inr (inl e))
    go false false true p q r = let e : s.mac ≡ 16 = eqb-true _ _ r in (omega arith, inr (inr e))
    go false false false p q r =
        absurd ((bad_setting_lem s).fails g (inl (inl (inl (inr ((eqb-false _ _ p, eqb-false _ _ q), eqb-false _ _ r))))))

-- ---- the window's width

-- of a channel it is what was chosen at open: 64, 128, 192 or 256
pub width_chosen : (s : Setting) → bad_setting s ≡ false
    → (width_of (rule_of s) ≡ s.width) × ((s.width ≡ 64) ⊎ (s.width ≡ 128) ⊎ (s.width ≡ 192) ⊎ (s.width ≡ 256))
unfolding window_width
width_chosen s g = go (eqb s.width 64) (eqb s.width 128) (eqb s.width 192) (eqb s.width 256) refl refl refl refl
  where
    go : (a b c d : Bool) → eqb s.width 64 ≡ a → eqb s.width 128 ≡ b → eqb s.width 192 ≡ c → eqb s.width 256 ≡ d
        → (width_of (rule_of s) ≡ s.width) × ((s.width ≡ 64) ⊎ (s.width ≡ 128) ⊎ (s.width ≡ 192) ⊎ (s.width ≡ 256))
    go true b c d p q r t = let e : s.width ≡ 64 = eqb-true _ _ p in (width_kept (rule_of s) (omega arith) (omega arith), inl e)
    go false true c d p q r t = let e : s.width ≡ 128 = eqb-true _ _ q in (width_kept (rule_of s) (omega arith) (omega arith), inr (inl e))
    go false false true d p q r t = let e : s.width ≡ 192 = eqb-true _ _ r in (width_kept (rule_of s) (omega arith) (omega arith), inr (inr (inl e)))
    go false false false true p q r t = let e : s.width ≡ 256 = eqb-true _ _ t in (width_kept (rule_of s) (omega arith) (omega arith), inr (inr (inr e)))
    go false false false false p q r t =
        absurd ((bad_setting_lem s).fails g (inl (inr (((eqb-false _ _ p, eqb-false _ _ q), eqb-false _ _ r), eqb-false _ _ t))))

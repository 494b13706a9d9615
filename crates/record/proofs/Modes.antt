-- The two modes by page 01's numbers: mode 0 is message authentication only, mode 1 is not.
-- Assumes nothing.
use mathlib.Core.Bool.{true, false}
use mathlib.Core.Logic.{inl}
use mathlib.Core.Path.{◌≡◌}
use Prim.Native.Nat.{◌≤◌}
use native.Mathlib.Decide.{dec_le}
use native.Mathlib.Omega.{arith}
use borrow.Author.Tests.{eqb-true, eq-eqb, ne_eqb}
use Rattle.record.specs.declared.setting.Setting.{Setting}
use Rattle.record.specs.Setting.{auth_only, bad_setting}
use Rattle.record.proofs.Told.{bad_setting_lem}

-- mode 0 is message authentication only
pub clear_mode : (s : Setting) → s.mode ≡ 0 → auth_only s ≡ true
unfolding auth_only
clear_mode s m = eq-eqb _ _ m

-- and no other mode is
pub auth_mode : (s : Setting) → auth_only s ≡ true → s.mode ≡ 0
unfolding auth_only
auth_mode s e = eqb-true _ _ e

-- a channel has one of the two
pub good_mode : (s : Setting) → bad_setting s ≡ false → s.mode ≤ 1
good_mode s g = go (dec_le s.mode 1)
  where
    go : Dec (s.mode ≤ 1) → s.mode ≤ 1
    go (yes p) = p
    go (no p) = absurd ((bad_setting_lem s).fails g (inl (inl (inl (inl (inl (omega arith)))))))

-- mode 1 is encryption and authentication
pub sealed_mode : (s : Setting) → s.mode ≡ 1 → auth_only s ≡ false
unfolding auth_only
sealed_mode s m = ne_eqb s.mode 0 (omega arith)

-- The header with a partial number and without one.
-- Assumes nothing.
use Prim.Native.Nat.{ℕ, ◌+◌, ◌≤◌}
use mathlib.Core.Bool.{Bool, true, false, cond}
use mathlib.Core.List.{[], ◌++◌}
use mathlib.Core.Path.{◌≡◌, refl}
use native.Mathlib.Omega.{arith}
use lib.ListN.{length}
use Rattle.answers.proofs.Tests.{by_cases}
use Rattle.octets.specs.Fields.{little}
use Rattle.record.specs.declared.setting.Setting.{Setting}
use Rattle.record.specs.Setting.{has_partial}
use Rattle.record.specs.Header.{length_at, partial_for, head_of}
use Rattle.record.specs.Shape.{head_len}

-- it has 6 to 8 bytes
pub head_least : (s : Setting) → 6 ≤ head_len s
unfolding head_len
head_least s = by_cases (λ (k : ℕ). 6 ≤ k) (has_partial s) 8 6 (λ h. omega arith) (λ h. omega arith)

pub head_most : (s : Setting) → head_len s ≤ 8
unfolding head_len
head_most s = by_cases (λ (k : ℕ). k ≤ 8) (has_partial s) 8 6 (λ h. omega arith) (λ h. omega arith)

-- Length is its last field
pub length_last : (s : Setting) → head_len s ≡ length_at s + 2
unfolding head_len length_at
length_last s = go (has_partial s)
  where
    go : (b : Bool) → cond b 8 6 ≡ cond b 6 4 + 2
    go true = refl
    go false = refl

-- what stands before it
pub before_length : (s : Setting) (n : ℕ) → length (little 4 s.session ++ partial_for s n) ≡ length_at s
unfolding partial_for length_at
before_length s n = go (has_partial s)
  where
    go : (b : Bool) → length (little 4 s.session ++ cond b (little 2 n) []) ≡ cond b 6 4
    go true = refl
    go false = refl

-- the header's length
pub head_length : (s : Setting) (n len : ℕ) → length (head_of s n len) ≡ head_len s
unfolding head_of partial_for head_len
head_length s n len = go (has_partial s)
  where
    go : (b : Bool) → length (little 4 s.session ++ cond b (little 2 n) [] ++ little 2 len) ≡ cond b 8 6
    go true = refl
    go false = refl

-- with a partial number
pub partial_head : (s : Setting) (n len : ℕ) → has_partial s ≡ true → head_of s n len ≡ little 4 s.session ++ little 2 n ++ little 2 len
unfolding head_of partial_for
partial_head s n len h = rw h

-- and without one
pub bare_head : (s : Setting) (n len : ℕ) → has_partial s ≡ false → head_of s n len ≡ little 4 s.session ++ little 2 len
unfolding head_of partial_for
bare_head s n len h = rw h

pub partial_length : (s : Setting) → has_partial s ≡ true → head_len s ≡ 8
unfolding head_len
partial_length s h = rw h

pub bare_length : (s : Setting) → has_partial s ≡ false → head_len s ≡ 6
unfolding head_len
bare_length s h = rw h

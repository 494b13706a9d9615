-- Laws of a table's rows: the lowest of a kind, and one that is set.
-- Assumes nothing.
use Prim.Native.Nat.{ℕ, zero, suc, ◌+◌, ◌<◌}
use mathlib.Core.Path.{◌≡◌, refl}
use mathlib.Core.Logic.{◌≢◌}
use mathlib.Core.Bool.{Bool, true, false, cond}
use mathlib.Core.List.{List, [], ◌∷◌}
use native.Mathlib.Numerals.{add-one}
use native.Mathlib.Omega.{arith}
use lib.ListN.{length, set}
use lib.Seq.{get_or-set_same, get_or-set_other}
use lib.Dec.{eqb}
use borrow.Author.Tests.{eqb-true, eqb-false}
use Rattle.answers.proofs.Tests.{true_not_false, or_true_left, or_more}
use Rattle.rows.specs.Ends.{Ends, free_ends}
use Rattle.controller.specs.Table.{row_at, some, lowest}

-- the first row, or one of the rest
found_step : (p : Ends → Bool) (e : Ends) (t : List Ends) (k : ℕ) (b : Bool) → p e ≡ b → (b ≡ false → (k < length t) × (p (row_at t k) ≡ true))
    → (cond b 0 (k + 1) < suc (length t)) × (p (row_at (e ∷ t) (cond b 0 (k + 1))) ≡ true)
found_step p e t k true q f = (omega arith, q)
found_step p e t k false q f = let r = f refl in (omega arith, rw add-one r.1)

first_step : (p : Ends → Bool) (e : Ends) (t : List Ends) (k : ℕ) (b : Bool) → p e ≡ b → ((j : ℕ) → j < k → p (row_at t j) ≡ false)
    → (j : ℕ) → j < cond b 0 (k + 1) → p (row_at (e ∷ t) j) ≡ false
first_step p e t k true q f j h = absurd (omega arith)
first_step p e t k false q f zero h = q
first_step p e t k false q f (suc j) h = f j (omega arith)

module _ (p : Ends → Bool) where
  -- where there is one, p holds of the lowest
  pub lowest_found : (t : List Ends) → some p t ≡ true → (lowest p t < length t) × (p (row_at t (lowest p t)) ≡ true)
  unfolding some lowest
  lowest_found [] h = absurd (true_not_false h refl)
  lowest_found (e ∷ t) h = found_step p e t (lowest p t) (p e) refl (λ q. lowest_found t (rw q at h))

  -- and of none below it
  pub lowest_first : (t : List Ends) (j : ℕ) → j < lowest p t → p (row_at t j) ≡ false
  unfolding lowest
  lowest_first [] j h = absurd (omega arith)
  lowest_first (e ∷ t) j h = first_step p e t (lowest p t) (p e) refl (lowest_first t) j h

  -- where it holds of a row, there is one
  pub some_at : (t : List Ends) (j : ℕ) → j < length t → p (row_at t j) ≡ true → some p t ≡ true
  unfolding some
  some_at [] j h q = absurd (omega arith)
  some_at (e ∷ t) zero h q = or_true_left (p e) (some p t) q
  some_at (e ∷ t) (suc j) h q = or_more (p e) (some p t) (some_at t j (omega arith) q)

module _ (t : List Ends) (i : ℕ) (e : Ends) where
  pub row_set : i < length t → row_at (set t i e) i ≡ e
  row_set h = get_or-set_same t i e free_ends h

  pub row_kept : (j : ℕ) → j ≢ i → row_at (set t i e) j ≡ row_at t j
  row_kept j h = get_or-set_other t i j e free_ends h

-- a row of the table with row i set is e, or one of the others
pub data SetRow (t : List Ends) (i : ℕ) (e : Ends) (j : ℕ) : Type 0 where
  itself : j ≡ i → row_at (set t i e) j ≡ e → SetRow t i e j
  other : j ≢ i → row_at (set t i e) j ≡ row_at t j → SetRow t i e j

pub set_row : (t : List Ends) (i : ℕ) (e : Ends) (j : ℕ) → i < length t → SetRow t i e j
set_row t i e j h = go (eqb j i) refl
  where
    go : (b : Bool) → eqb j i ≡ b → SetRow t i e j
    go true q = itself (eqb-true j i q) (rw (eqb-true j i q) (row_set t i e h))
    go false q = other (eqb-false j i q) (row_kept t i e j (eqb-false j i q))

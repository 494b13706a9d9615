-- The number of a record that is read again, when more was marked since.
-- Assumes nothing.
use Prim.Native.Nat.{ℕ, ◌+◌, ◌%◌, ◌≤◌, ◌<◌}
use mathlib.Core.Logic.{◌≢◌, inl}
use mathlib.Core.Path.{◌≡◌, sym, ap, ◌∙◌}
use mathlib.Core.Bool.{true, false}
use mathlib.Core.List.{List}
use native.Mathlib.Omega.{arith}
use Rattle.numbers.specs.Number.{nearest}
use Rattle.numbers.proofs.Laws.{nearest_low, nearest_cut, near_exactly}
use Rattle.record.specs.Setting.{has_partial}
use Rattle.record.specs.Header.{partial_of, number_of}
use Rattle.record.specs.declared.setting.Setting.{Setting}

module _ (s : Setting) (p : has_partial s ≡ true) where
  near_number : (e : ℕ) (r : List ℕ) → number_of s e r ≡ nearest e (partial_of s r)
  unfolding number_of
  near_number e r = rw p

  -- from its own number's low bits a record is read as it is from its partial number
  by_number : (e f n : ℕ) (r : List ℕ) → number_of s e r ≡ n → number_of s f r ≡ nearest f (n % 65536)
  by_number e f n r h =
      let low : nearest e (partial_of s r) % 65536 ≡ partial_of s r % 65536 =
      ap (λ (k : ℕ). k % 65536) (nearest_cut e (partial_of s r)) ∙ nearest_low e (partial_of s r % 65536) (omega arith) in
      near_number f r ∙ nearest_cut f (partial_of s r) ∙ ap (nearest f) (sym low ∙ ap (λ (k : ℕ). k % 65536) (sym (near_number e r) ∙ h))

  -- a record whose number was n has the number n again where E lies above n by at most 32768
  pub number_again : (e f n : ℕ) (r : List ℕ) → number_of s e r ≡ n → n < f → f ≤ n + 32768 → number_of s f r ≡ n
  number_again e f n r h a b = by_number e f n r h ∙ (near_exactly f n).1 (b, inl (omega arith))

  -- and another one where E lies further above
  pub number_other : (f n : ℕ) (r : List ℕ) → n + 32768 < f → number_of s f r ≢ n
  number_other f n r h e = let q = ((near_exactly f n).0 (sym (by_number f f n r e) ∙ e)).0 in omega arith

-- without a partial number it is always E
pub number_next : (s : Setting) (e : ℕ) (r : List ℕ) → has_partial s ≡ false → number_of s e r ≡ e
unfolding number_of
number_next s e r h = rw h

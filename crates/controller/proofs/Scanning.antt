-- A scan of the table for the first row of which something holds.
-- Assumes nothing.
use Prim.Native.Nat.{ℕ, suc, ◌+◌}
use mathlib.Core.Bool.{Bool, true, false, not, cond, ◌||◌}
use mathlib.Core.List.{List, [], ◌∷◌}
use mathlib.Core.Path.{◌≡◌, refl, sym, ap, ◌∙◌}
use native.Mathlib.Omega.{arith}
use lib.Dec.{ltb}
use borrow.Author.Tests.{lt-ltb}
use lib.ListN.{length, get_or, length-map, get_or-map}
use Rattle.std.specs.Prelude.{Some, None, is_some, unwrap_or, position}
use Rattle.std.specs.List.{list_any, position_or_len}
use Rattle.std.proofs.lemmas.List.Recursion.{is_position_or_len}
use Rattle.rows.specs.Ends.{Ends, ends_of}
use Rattle.rows.proofs.Laws.{zeros_free}
use Rattle.controller.specs.Table.{row_at, some, lowest}
use Rattle.controller.specs.Words.{rows_of, words_at, no_words}

-- a row is what its words say
pub row_at_lem : (w : List (List ℕ)) (i : ℕ) → row_at (rows_of w) i ≡ ends_of (words_at w i)
row_at_lem w i = ap (get_or (rows_of w) i) (sym zeros_free) ∙ get_or-map ends_of w i no_words

pub same_length : (w : List (List ℕ)) → length (rows_of w) ≡ length w
same_length w = length-map w ends_of

-- ---- what is asked of the rows is asked of their words

pub some_rows : (p : Ends → Bool) (w : List (List ℕ)) → some p (rows_of w) ≡ list_any (λ x. p (ends_of x)) w
unfolding some
some_rows p [] = refl
some_rows p (x ∷ w) = rw (some_rows p w) refl

-- ---- the position is the lowest row's, where there is some such row

lowest_is : (p : Ends → Bool) (w : List (List ℕ)) → lowest p (rows_of w) ≡ position_or_len (λ x. p (ends_of x)) w
unfolding lowest
lowest_is p w = is_position_or_len (λ (v : List (List ℕ)). lowest p (rows_of v)) (λ x. p (ends_of x)) refl (λ x v. ap (cond (p (ends_of x)) 0) (omega arith)) w

within_next : (b s : Bool) (k n : ℕ) → s ≡ ltb k n → (b || s) ≡ ltb (cond (not b) (1 + k) 0) (suc n)
within_next true s k n e = sym (lt-ltb 0 (suc n) (omega arith))
within_next false s k n e = grind (arith, e)

some_within : (p : Ends → Bool) (w : List (List ℕ)) → some p (rows_of w) ≡ ltb (position_or_len (λ x. p (ends_of x)) w) (length w)
unfolding some
some_within p [] = refl
some_within p (x ∷ w) = within_next (p (ends_of x)) (some p (rows_of w)) (position_or_len (λ y. p (ends_of y)) w) (length w) (some_within p w)

pub position_is : (p : Ends → Bool) (w : List (List ℕ)) → position (λ x. p (ends_of x)) w ≡ cond (some p (rows_of w)) (Some (lowest p (rows_of w))) None
position_is p w = rw (lowest_is p w, some_within p w) refl

-- what a scan's answer says: that there is such a row, that there is none, and which it is

told_of : (b : Bool) (k : ℕ) → is_some (cond b (Some k) None) ≡ b
told_of true k = refl
told_of false k = refl

place_of : (b : Bool) (k : ℕ) → unwrap_or (cond b (Some k) None) k ≡ k
place_of true k = refl
place_of false k = refl

module _ (p : Ends → Bool) (w : List (List ℕ)) where
  pub found_told : is_some (position (λ x. p (ends_of x)) w) ≡ some p (rows_of w)
  found_told = rw (position_is p w) (told_of (some p (rows_of w)) (lowest p (rows_of w)))

  pub none_found : position (λ x. p (ends_of x)) w ≡ None → some p (rows_of w) ≡ false
  none_found e = sym found_told ∙ ap is_some e

  pub lowest_found : (i : ℕ) → position (λ x. p (ends_of x)) w ≡ Some i → (some p (rows_of w) ≡ true) × (i ≡ lowest p (rows_of w))
  lowest_found i e =
      let place : i ≡ lowest p (rows_of w) = ap (λ o. unwrap_or o (lowest p (rows_of w))) (sym e ∙ position_is p w) ∙ place_of (some p (rows_of w)) (lowest p (rows_of w)) in
      (sym found_told ∙ ap is_some e, place)

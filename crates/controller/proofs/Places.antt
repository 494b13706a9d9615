-- Places in the table, and what is so of the rows from a place on.
-- Assumes nothing.
use Prim.Native.Nat.{ℕ, zero, suc, ◌+◌, ◌≤◌, ◌<◌}
use mathlib.Core.Bool.{Bool, true, false, not, cond, ◌&&◌, ◌||◌, or_assoc}
use mathlib.Core.List.{List, [], ◌∷◌}
use mathlib.Core.Path.{◌≡◌, refl, sym, ap, ◌∙◌}
use native.Mathlib.Numerals.{add-one}
use native.Mathlib.Omega.{arith}
use lib.Dec.{eqb, eqb-zero-suc, eqb-suc-suc}
use lib.ListN.{length, get_or, drop}
use lib.Seq.{drop-cons}
use Rattle.rows.specs.Ends.{Ends, free_ends, is_open, is_split, id_of, ends_of}
use Rattle.controller.specs.Table.{row_at, some, lowest, has, clashes}
use Rattle.controller.specs.Words.{rows_of, words_at, no_words}
use Rattle.controller.proofs.Scanning.{row_at_lem, same_length}

-- ---- what is beyond the last row does not count within it, and is all there is beyond it

pub words_within : (w : List (List ℕ)) (i : ℕ) → i < length w → get_or w i [] ≡ words_at w i
words_within [] i h = absurd (omega arith)
words_within (x ∷ w) zero h = refl
words_within (x ∷ w) (suc i) h = words_within w i (omega arith)

pub words_beyond : (w : List (List ℕ)) (i : ℕ) → length w ≤ i → words_at w i ≡ no_words
words_beyond [] i h = refl
words_beyond (x ∷ w) zero h = absurd (omega arith)
words_beyond (x ∷ w) (suc i) h = words_beyond w i (omega arith)

-- ---- the lowest row lies within the table, and where there is none its place is the number of rows

within_next : (b : Bool) (k n : ℕ) → k ≤ n → cond b 0 (k + 1) ≤ suc n
within_next true k n h = omega arith
within_next false k n h = omega arith

pub found_within : (p : Ends → Bool) (t : List Ends) → lowest p t ≤ length t
unfolding lowest
found_within p [] = omega arith
found_within p (e ∷ t) = within_next (p e) (lowest p t) (length t) (found_within p t)

none_next : (b s : Bool) (k n : ℕ) → not s ≡ eqb k n → not (b || s) ≡ eqb (cond b 0 (k + 1)) (suc n)
none_next true s k n e = sym (eqb-zero-suc n)
none_next false s k n e = rw (add-one, eqb-suc-suc) e

pub none_lowest : (p : Ends → Bool) (t : List Ends) → not (some p t) ≡ eqb (lowest p t) (length t)
unfolding some lowest
none_lowest p [] = refl
none_lowest p (e ∷ t) = none_next (p e) (some p t) (lowest p t) (length t) (none_lowest p t)

-- ---- the rows from a place on clash where its row does

-- the row's two differ, or it is open and a row after it is open and has its Session ID
abbrev pub clash_here : List (List ℕ) → ℕ → Bool
clash_here w i =
    let e : Ends = ends_of (words_at w i) in
    is_split e || (is_open e && some (has (id_of e)) (drop (i + 1) (rows_of w)))

rest : (t : List Ends) (i : ℕ) → i < length t → drop i t ≡ row_at t i ∷ drop (i + 1) t
rest t i h = rw add-one (drop-cons t i free_ends h)

pub clashes_next : (t : List Ends) (i : ℕ) → i < length t
    → clashes (drop i t)
    ≡ (is_split (row_at t i) || ((is_open (row_at t i) && some (has (id_of (row_at t i))) (drop (i + 1) t)) || clashes (drop (i + 1) t)))
unfolding clashes
clashes_next t i h = ap clashes (rest t i h)

clashes_at : (w : List (List ℕ)) (i : ℕ) → i < length w → clashes (drop i (rows_of w)) ≡ (clash_here w i || clashes (drop (i + 1) (rows_of w)))
clashes_at w i h =
    let e : Ends = ends_of (words_at w i) in
    clashes_next (rows_of w) i (rw (same_length w) h)
    ∙ rw (row_at_lem w i) (sym (or_assoc (is_split e) (is_open e && some (has (id_of e)) (drop (i + 1) (rows_of w))) (clashes (drop (i + 1) (rows_of w)))))

pub clash_here_lem : (w : List (List ℕ)) (i : ℕ) → i < length w → clash_here w i ≡ true → clashes (drop i (rows_of w)) ≡ true
clash_here_lem w i h e = clashes_at w i h ∙ rw e refl

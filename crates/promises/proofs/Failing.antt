-- A table of what is read off each of a list refutes a property of each, where the property makes a test of the reading hold.
-- Assumes nothing.
use mathlib.Core.Path.{◌≡◌, sym, subst}
use mathlib.Core.Bool.{Bool, true, not, ◌&&◌}
use mathlib.Core.List.{List, [], ◌∷◌, map}
use lib.Dec.{T}
use Rattle.answers.proofs.Tests.{both_true}
use Rattle.promises.specs.Ways.{Fails}

-- the test holds of none
abbrev pub none_of : {B : Type 0} → (B → Bool) → List B → Bool
none_of test [] = true
none_of test (y ∷ ys) = not (test y) && none_of test ys

module _ {A B : Type 0} (P : A → Type 0) (read : A → B) (test : B → Bool) (holds : (x : A) → P x → test (read x) ≡ true) where
  fails_all : (xs : List A) → T (none_of test (map read xs)) → Fails P xs
  fails_all [] h = tt
  fails_all (x ∷ xs) h =
      let n = both_true (not (test (read x))) (none_of test (map read xs)) h in
      (λ p. rw (holds x p) at n.0, fails_all xs n.1)

  -- the table ys is what is read off xs, and the test fails of all of it
  pub fails : (xs : List A) (ys : List B) → map read xs ≡ ys → T (none_of test ys) → Fails P xs
  fails xs ys e h = fails_all xs (subst (λ (l : List B). T (none_of test l)) (sym e) h)

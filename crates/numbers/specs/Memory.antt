-- A plain memory of the numbers marked, as a list, and what it says of a number by the same rules. The window is to agree with it.
-- Assumes nothing.
use Rattle.std.specs.Prelude.{ℕ, ◌+◌, ◌^◌, ◌≤◌, ◌<◌, min, max, ◌≡◌, Bool, false, ◌||◌, List, [], ◌∷◌, eqb}
use Rattle.answers.specs.Table.{first}
use Rattle.numbers.specs.Number.{number_rows, gap_count}
use Rattle.numbers.specs.Word.{word_of}
use Rattle.numbers.specs.Window.{marked}
use Rattle.numbers.specs.Contract.{width_of, empty_window, after}
use Rattle.numbers.specs.declared.window.Rule.{Rule}
use Rattle.numbers.specs.declared.window.Window.{Window}

-- whether k is in the list
unfoldable pub member : ℕ → List ℕ → Bool
member k [] = false
member k (x ∷ xs) = eqb k x || member k xs

-- one more than the highest, 0 for none
unfoldable pub next_of : List ℕ → ℕ
next_of [] = 0
next_of (x ∷ xs) = max (next_of xs) (x + 1)

-- what refuses the number n where xs are marked, 0 where nothing does
unfoldable pub plain_verdict : ℕ → ℕ → List ℕ → ℕ → ℕ
plain_verdict w l xs n = first (number_rows w l (next_of xs) (λ k. member k xs) n)

-- the gap count where xs are marked
unfoldable pub plain_gaps : ℕ → List ℕ → ℕ
plain_gaps w xs = gap_count w (next_of xs) (λ k. member k xs)

-- the window e, m of width w shows what the list xs holds, as far as the width goes
pub record Shows (w e m : ℕ) (xs : List ℕ) : Type 0 where
  pub top : e ≡ next_of xs
  pub word : m < 2 ^ min w e
  pub agree : (k : ℕ) → e ≤ k + w → marked e m k ≡ member k xs

-- the same of a declared window
abbrev pub Remembers : Rule → Window → List ℕ → Type 0
Remembers r s xs = Shows (width_of r) s.next (word_of s.marks) xs

-- every number of the list is below l
abbrev pub Below : ℕ → List ℕ → Type 0
Below l [] = Unit {0}
Below l (x ∷ xs) = (x < l) × Below l xs

-- the empty window after the numbers of a list are marked, from its end to its head
unfoldable pub after_all : Rule → List ℕ → Window
after_all r [] = empty_window
after_all r (n ∷ xs) = after r (after_all r xs) n

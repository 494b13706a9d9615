-- Lists with no element twice.
-- Assumes nothing.
use mathlib.Core.List.{List, [], ◌∷◌, Memᴰ}

pub data Distinct {A : Type 0} : List A → Type 0 where
  none : Distinct []
  more : {a : A} {l : List A} → (Memᴰ a l → ⊥) → Distinct l → Distinct (a ∷ l)

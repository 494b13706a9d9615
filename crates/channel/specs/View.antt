-- What the rules may ask of a receiver. Whoever gives a view can be held to the rules: the receiver with its window, and a plain one.
-- Assumes nothing.
use Rattle.std.specs.Prelude.{ℕ, ◌-◌, Bool, not, cond, ◌&&◌, ◌||◌, List, ltb, eqb}
use Rattle.record.specs.declared.setting.Setting.{Setting}
use Rattle.record.specs.Header.{number_of}

-- of a key: its IV, E, and which numbers are marked
pub record Face : Type 0 where
  pub iv : List ℕ
  pub next : ℕ
  pub seen : ℕ → Bool

-- of a receiver: whether its state is one that State is given for, its key count, its keys, and whether the old one is held
pub record View : Type 0 where
  pub setting : Setting
  pub bad : Bool
  pub count : ℕ
  pub current : Face
  pub held : Bool
  pub old : Face

-- ---- by key slot: 0 is the current key, 1 the old one

unfoldable pub no_key : View → ℕ → Bool
no_key v slot = ltb 1 slot || (eqb slot 1 && not v.held)

abbrev pub key_at : View → ℕ → Face
key_at v slot = cond (eqb slot 0) v.current v.old

abbrev pub count_at : View → ℕ → ℕ
count_at v slot = cond (eqb slot 0) v.count (v.count - 1)

-- the number of the record r
abbrev pub number_at : View → List ℕ → ℕ → ℕ
number_at v r slot = number_of v.setting (key_at v slot).next r

-- How a call reaches a row: by a record's Session ID, or by the row's number; and what is refused before the row is asked.
-- Assumes nothing.
use Rattle.std.specs.Prelude.{ℕ, not, List, [], ◌∷◌, ◌++◌, ltb, length}
use Rattle.answers.specs.Refusal as Refusal
use Rattle.answers.specs.Table.{Check}
use Rattle.octets.specs.Fields.{field}
use Rattle.record.specs.Setting.{open_rows}
use Rattle.record.specs.Shape.{shortest}
use Rattle.record.specs.declared.setting.Setting.{Setting}
use Rattle.rows.specs.Ends.{Ends, is_free}
use Rattle.controller.specs.Table.{row_at, some, lowest, has, clashes}

pub data Door : Type 0 where
  -- the row that has the Session ID of the record r
  session : (r : List ℕ) → Door
  -- the row with this number
  number : (i : ℕ) → Door

-- the Session ID of a record: its first 4 bytes, whatever the channel's setting
abbrev pub id_in : List ℕ → ℕ
id_in r = field r 0 4

-- where it leads
unfoldable pub place : List Ends → Door → ℕ
place t (session r) = lowest (has (id_in r)) t
place t (number i) = i

-- State, then Short, then Unknown
unfoldable pub door_rows : List Ends → Door → List Check
door_rows t (session r) =
    (clashes t, Refusal.state) ∷ (ltb (length r) shortest, Refusal.short) ∷ (not (some (has (id_in r)) t), Refusal.unknown) ∷ []
door_rows t (number i) = (clashes t, Refusal.state) ∷ (is_free (row_at t i), Refusal.unknown) ∷ []

-- Open: State, Setting, Twice, Rows
unfoldable pub new_rows : List Ends → Setting → List Check
new_rows t s =
    (clashes t, Refusal.state)
    ∷ (open_rows s ++ (some (has s.session) t, Refusal.twice) ∷ (not (some is_free t), Refusal.rows) ∷ [])

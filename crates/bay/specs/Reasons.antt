-- Why the table refuses a call, in the request's words and order.
-- Assumes nothing.
use Rattle.std.specs.Prelude.{ℕ, ◌≤◌, ◌<◌, ◌≡◌, ◌≢◌, ◌⊎◌, true, List, [], ◌∷◌, ◌++◌, length}
use Rattle.answers.specs.Refusal as Refusal
use Rattle.answers.specs.Reasons.{Reason, ◌refuses◌}
use Rattle.record.specs.Reasons.{open_reasons}
use Rattle.record.specs.declared.setting.Setting.{Setting}
use Rattle.rows.specs.Ends.{Ends, is_free, is_open, id_of}
use Rattle.controller.specs.Table.{row_at}
use Rattle.record.specs.Shape.{shortest}
use Rattle.controller.specs.Doors.{Door, session, number, id_in}

-- ---- of a row

abbrev pub Free : Ends → Type 0
Free e = is_free e ≡ true

abbrev pub Open : Ends → Type 0
Open e = is_open e ≡ true

-- it is open, and has this Session ID
abbrev pub Has : ℕ → Ends → Type 0
Has id e = Open e × (id_of e ≡ id)

-- its two differ
abbrev pub Split : Ends → Type 0
Split e = e.receiver.setting.session ≢ e.sender.setting.session

-- ---- of a table

-- a row is such
pub record Some (P : Ends → Type 0) (t : List Ends) : Type 0 where
  pub row : ℕ
  pub there : row < length t
  pub such : P (row_at t row)

-- two open rows share a Session ID
pub record Shared (t : List Ends) : Type 0 where
  pub one : ℕ
  pub two : ℕ
  pub apart : one ≢ two
  pub there_one : one < length t
  pub there_two : two < length t
  pub open_one : Open (row_at t one)
  pub open_two : Open (row_at t two)
  pub same : id_of (row_at t one) ≡ id_of (row_at t two)

-- two open rows share a Session ID, or a row's two differ
abbrev pub Clash : List Ends → Type 0
Clash t = Shared t ⊎ Some Split t

-- ---- the reasons

-- on delivery: Short, then Unknown (no open row has that Session ID); by row: at a free row or beyond the last, Unknown
abbrev pub door_reasons : List Ends → Door → List Reason
door_reasons t (session r) =
    Clash t refuses Refusal.state
    ∷ (length r < shortest) refuses Refusal.short
    ∷ (Some (Has (id_in r)) t → ⊥) refuses Refusal.unknown
    ∷ []
door_reasons t (number i) = Clash t refuses Refusal.state ∷ (Free (row_at t i) ⊎ (length t ≤ i)) refuses Refusal.unknown ∷ []

-- on open: Setting, then Twice (Session ID in an open row), then Rows (none free)
abbrev pub new_reasons : List Ends → Setting → List Reason
new_reasons t s =
    Clash t refuses Refusal.state
    ∷ (open_reasons s ++ Some (Has s.session) t refuses Refusal.twice ∷ (Some Free t → ⊥) refuses Refusal.rows ∷ [])

-- Reading a record, and finding its number for a key.
-- Assumes nothing.
use Rattle.std.specs.Prelude.{ℕ, Bool, List, [], ◌∷◌, ltb, length}
use Rattle.answers.specs.Refusal as Refusal
use Rattle.answers.specs.Table.{Check, first, given, differ}
use Rattle.numbers.specs.Number.{number_rows}
use Rattle.numbers.specs.Contract.{Placed, width_of, seen_by, no_place}
use Rattle.numbers.specs.declared.window.Window.{Window}
use Rattle.record.specs.declared.setting.Setting.{Setting}
use Rattle.record.specs.Setting.{rule_of}
use Rattle.record.specs.Header.{session_of, length_of, number_of}
use Rattle.record.specs.Shape.{head_len, least, total_of, assoc_end, text_end, plain_len, data_place}

-- 4 to 7: what refuses a record before any key is looked at
unfoldable pub record_rows : Setting → List ℕ → List Check
record_rows s r =
    (ltb (length r) (head_len s), Refusal.short)
    ∷ (differ (session_of s r) s.session, Refusal.session)
    ∷ (differ (length r) (total_of s r), Refusal.length)
    ∷ (ltb (length_of s r) (least s), Refusal.small)
    ∷ []

-- 8 to 10: what refuses its number, for a key of which e and the marked numbers are known
unfoldable pub place_rows : Setting → ℕ → (ℕ → Bool) → List ℕ → List Check
place_rows s e seen r = number_rows (width_of (rule_of s)) s.limit e seen (number_of s e r)

-- what is read, as numbers: 0 and what a record has, or the number of a refusal and zeros
pub record Reading : Type 0 where
  pub answer : ℕ
  pub assoc : ℕ
  pub text : ℕ
  pub plain : ℕ
  pub place : ℕ

abbrev pub no_record : ℕ → Reading
no_record why = record { answer = why; assoc = 0; text = 0; plain = 0; place = 0 }

abbrev pub well_formed : Setting → List ℕ → Reading
well_formed s r =
    record { answer = 0; assoc = assoc_end s r; text = text_end s r; plain = plain_len s r; place = data_place s r }

unfoldable pub read_of : Setting → List ℕ → Reading
read_of s r = given (first (record_rows s r)) (well_formed s r) no_record

unfoldable pub place_of : Setting → Window → List ℕ → Placed
place_of s w r =
    given (first (place_rows s w.next (seen_by w) r)) (record { answer = 0; number = number_of s w.next r }) no_place

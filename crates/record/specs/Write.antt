-- Building a record: its form by the lengths of the data, p, and of the random bytes, q, and its bytes.
-- Assumes nothing.
use Rattle.std.specs.Prelude.{ℕ, ◌+◌, cond, ◌&&◌, List, [], ◌∷◌, ◌++◌, ltb, length}
use Rattle.answers.specs.Refusal as Refusal
use Rattle.answers.specs.Table.{Check, first, given, differ}
use Rattle.octets.specs.Fields.{little}
use Rattle.octets.specs.Parts.{over}
use Rattle.record.specs.declared.setting.Setting.{Setting}
use Rattle.record.specs.Setting.{auth_only}
use Rattle.record.specs.Header.{head_of}
use Rattle.record.specs.Shape.{head_len, mac_len, inner_len, most_length}

-- ---- its form

-- how long the part between header and MAC is
unfoldable pub body_len : Setting → ℕ → ℕ → ℕ
body_len s p q = cond (auth_only s) p (inner_len s + p + q)

abbrev pub length_for : Setting → ℕ → ℕ → ℕ
length_for s p q = body_len s p q + mac_len s

abbrev pub text_end_for : Setting → ℕ → ℕ → ℕ
text_end_for s p q = head_len s + body_len s p q

unfoldable pub assoc_end_for : Setting → ℕ → ℕ → ℕ
assoc_end_for s p q = cond (auth_only s) (text_end_for s p q) (head_len s)

abbrev pub total_for : Setting → ℕ → ℕ → ℕ
total_for s p q = text_end_for s p q + mac_len s

-- 15, 16: random bytes in mode 0, or a Length that its field can't hold
unfoldable pub form_rows : Setting → ℕ → ℕ → List Check
form_rows s p q =
    (auth_only s && differ q 0, Refusal.padding)
    ∷ (ltb (most_length s) (length_for s p q), Refusal.size)
    ∷ []

-- a form as numbers: 0 and what a record will have, or the number of a refusal and zeros
pub record Formed : Type 0 where
  pub answer : ℕ
  pub assoc : ℕ
  pub text : ℕ
  pub total : ℕ

abbrev pub no_form : ℕ → Formed
no_form why = record { answer = why; assoc = 0; text = 0; total = 0 }

abbrev pub good_form : Setting → ℕ → ℕ → Formed
good_form s p q = record { answer = 0; assoc = assoc_end_for s p q; text = text_end_for s p q; total = total_for s p q }

unfoldable pub form_of : Setting → ℕ → ℕ → Formed
form_of s p q = given (first (form_rows s p q)) (good_form s p q) no_form

-- 17: a buffer of this many bytes is too short
unfoldable pub room_rows : Setting → ℕ → ℕ → ℕ → List Check
room_rows s p q room = (ltb room (total_for s p q), Refusal.room) ∷ []

-- the form, where there is room for it too
unfoldable pub write_of : Setting → ℕ → ℕ → ℕ → Formed
write_of s p q room = given (first (form_rows s p q ++ room_rows s p q room)) (good_form s p q) no_form

-- ---- its bytes

-- what stands between the header and the MAC
unfoldable pub body_of : Setting → List ℕ → List ℕ → List ℕ
body_of s app random = cond (auth_only s) app (little (inner_len s) (length app) ++ app ++ random)

-- all of a record but the MAC
unfoldable pub front_of : Setting → ℕ → List ℕ → List ℕ → List ℕ
front_of s number app random =
    head_of s number (length_for s (length app) (length random)) ++ body_of s app random

-- the buffer with all of the record but the MAC at its start; as it was where the form is refused or there is no room
unfoldable pub written : Setting → ℕ → List ℕ → List ℕ → List ℕ → List ℕ
written s number app random out =
    given
    (first (form_rows s (length app) (length random) ++ room_rows s (length app) (length random) (length out)))
    (over out 0 (front_of s number app random))
    (λ why. out)

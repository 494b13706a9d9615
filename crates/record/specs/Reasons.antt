-- Why a setting, a record, a form and a buffer are refused, in page 01's words and order.
-- Assumes nothing.
use Rattle.std.specs.Prelude.{ℕ, ◌+◌, ◌-◌, ◌<◌, List, [], ◌∷◌, ◌⊎◌, ◌≡◌, length}
use Rattle.answers.specs.Refusal as Refusal
use Rattle.answers.specs.Reasons.{Reason, ◌refuses◌}
use Rattle.record.specs.declared.setting.Setting.{Setting}
use Rattle.record.specs.Header.{session_of, length_of}
use Rattle.record.specs.Shape.{head_len, mac_len, inner_len, most_length, plain_len, data_len}
use Rattle.record.specs.Write.{length_for, total_for}

-- a MAC of another length than 8, 12 or 16 (request c)
abbrev pub BadMac : Setting → Type 0
BadMac s = ((s.mac ≡ 8 → ⊥) × (s.mac ≡ 12 → ⊥)) × (s.mac ≡ 16 → ⊥)

-- another width than 64, 128, 192 or 256 (request f)
abbrev pub BadWidth : Setting → Type 0
BadWidth s = (((s.width ≡ 64 → ⊥) × (s.width ≡ 128 → ⊥)) × (s.width ≡ 192 → ⊥)) × (s.width ≡ 256 → ⊥)

-- mode above 1, layout above 1 (request g), such a MAC, profile above 1 (request h), such a width, or L = 0
abbrev pub BadSetting : Setting → Type 0
BadSetting s = (((((1 < s.mode) ⊎ (1 < s.layout)) ⊎ BadMac s) ⊎ (1 < s.profile)) ⊎ BadWidth s) ⊎ (s.limit ≡ 0)

-- Length under the MAC's (mode 0), or under 2 more (mode 1)
abbrev pub TooSmall : Setting → List ℕ → Type 0
TooSmall s r =
    ((s.mode ≡ 0) × (length_of s r < mac_len s)) ⊎ ((s.mode ≡ 0 → ⊥) × (length_of s r < inner_len s + mac_len s))

-- mode 1, data length above Length - 18 (less 2 and the MAC's, since request c), which is what is there behind the length field
abbrev pub TooLong : Setting → List ℕ → List ℕ → Type 0
TooLong s r plain = (s.mode ≡ 0 → ⊥) × (plain_len s r - inner_len s < data_len s r plain)

abbrev pub open_reasons : Setting → List Reason
open_reasons s = BadSetting s refuses Refusal.setting ∷ []

abbrev pub record_reasons : Setting → List ℕ → List Reason
record_reasons s r =
    (length r < head_len s) refuses Refusal.short
    ∷ (session_of s r ≡ s.session → ⊥) refuses Refusal.session
    ∷ (length r ≡ head_len s + length_of s r → ⊥) refuses Refusal.length
    ∷ TooSmall s r refuses Refusal.small
    ∷ []

-- p bytes of data, q random bytes
abbrev pub form_reasons : Setting → ℕ → ℕ → List Reason
form_reasons s p q =
    ((s.mode ≡ 0) × (q ≡ 0 → ⊥)) refuses Refusal.padding
    ∷ (most_length s < length_for s p q) refuses Refusal.size
    ∷ []

abbrev pub room_reasons : Setting → ℕ → ℕ → ℕ → List Reason
room_reasons s p q room = (room < total_for s p q) refuses Refusal.room ∷ []

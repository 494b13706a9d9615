-- The shape that a setting gives a record. Where page 01 has a constant the function is constant: use it by its name and its laws.
-- `r` is a record on the wire, `plain` the plaintext buffer that goes with it.
-- Assumes nothing.
use Rattle.std.specs.Prelude.{ℕ, ◌+◌, ◌-◌, min, Bool, not, cond, ◌&&◌, List, ltb, length}
use Rattle.octets.specs.Fields.{field}
use Rattle.record.specs.declared.setting.Setting.{Setting}
use Rattle.record.specs.Setting.{auth_only, has_partial}
use Rattle.record.specs.Header.{length_of}

-- ---- lengths

-- Session ID, partial number and Length; without a partial number 2 bytes fewer
unfoldable pub head_len : Setting → ℕ
head_len s = cond (has_partial s) 8 6

-- the shortest header that a setting gives
unfoldable pub shortest : ℕ
shortest = 6

-- the MAC's length; of a setting that is none of a channel at most 16, as it is of one
unfoldable pub mac_len : Setting → ℕ
mac_len s = min 16 s.mac

-- the field before the data in mode 1
unfoldable pub inner_len : Setting → ℕ
inner_len s = 2

-- the largest Length
unfoldable pub most_length : Setting → ℕ
most_length s = 65535

-- the least Length
unfoldable pub least : Setting → ℕ
least s = cond (auth_only s) (mac_len s) (inner_len s + mac_len s)

-- how long the record says that it is
unfoldable pub total_of : Setting → List ℕ → ℕ
total_of s r = head_len s + length_of s r

-- ---- where its parts are

-- the payload starts behind the header
unfoldable pub start_of : Setting → List ℕ → ℕ
start_of s r = head_len s

-- the text ends where the MAC begins
unfoldable pub text_end : Setting → List ℕ → ℕ
text_end s r = length r - mac_len s

-- the associated data: header and data in mode 0, the header in mode 1
unfoldable pub assoc_end : Setting → List ℕ → ℕ
assoc_end s r = cond (auth_only s) (text_end s r) (start_of s r)

-- the plaintext buffer: empty in mode 0
unfoldable pub plain_len : Setting → List ℕ → ℕ
plain_len s r = cond (auth_only s) 0 (text_end s r - start_of s r)

-- the application data: its place, in the record in mode 0 and in the plaintext buffer in mode 1, and its length
unfoldable pub data_place : Setting → List ℕ → ℕ
data_place s r = cond (auth_only s) (start_of s r) (inner_len s)

unfoldable pub data_len : Setting → List ℕ → List ℕ → ℕ
data_len s r plain = cond (auth_only s) (text_end s r - start_of s r) (field plain 0 (inner_len s))

-- mode 1: the data is said to be longer than what is there
unfoldable pub inner_bad : Setting → List ℕ → List ℕ → Bool
inner_bad s r plain = not (auth_only s) && ltb (plain_len s r - inner_len s) (data_len s r plain)

-- Demand 2, the layout: page 01's table of the record on the wire, row by row.
-- Assumes nothing.
use Rattle.std.specs.Prelude.{ℕ, ◌+◌, ◌%◌, ◌≡◌, true, List, length, take, drop}
use Rattle.octets.specs.Fields.{field}
use Rattle.record.specs.declared.setting.Setting.{Setting}
use Rattle.record.specs.Setting.{has_partial}
use Rattle.record.specs.Header.{length_at}
use Rattle.record.specs.Shape.{head_len}

-- the record with the number n, the data and the random bytes: `out` is the buffer after Build, `was` the buffer before
pub record Laid (s : Setting) (n : ℕ) (app random was out : List ℕ) : Type 0 where
  -- offset 0, 4 bytes: Session ID
  pub session : field out 0 4 ≡ s.session
  -- offset 4, 2 bytes, where the profile has a partial number: low 16 bits of the sequence number
  pub low : has_partial s ≡ true → field out 4 2 ≡ n % 65536
  -- the last 2 bytes of the header, offset 6 or 4: Length, the bytes that follow it
  pub len_clear : s.mode ≡ 0 → field out (length_at s) 2 ≡ length app + s.mac
  pub len_sealed : s.mode ≡ 1 → field out (length_at s) 2 ≡ 2 + length app + length random + s.mac
  -- behind the header of 8 or 6 bytes, 2 bytes: application data length, mode 1 only
  pub inner : s.mode ≡ 1 → field out (head_len s) 2 ≡ length app
  -- then application data
  pub data_clear : s.mode ≡ 0 → take (length app) (drop (head_len s) out) ≡ app
  pub data_sealed : s.mode ≡ 1 → take (length app) (drop (head_len s + 2) out) ≡ app
  -- then random data, mode 1 only
  pub random_next : s.mode ≡ 1 → take (length random) (drop (head_len s + 2 + length app) out) ≡ random
  -- last the MAC, 16 bytes on page 01. Its bytes and all beyond the total stay unwritten
  pub unwritten_clear : s.mode ≡ 0 → drop (head_len s + length app) out ≡ drop (head_len s + length app) was
  pub unwritten_sealed : s.mode ≡ 1
      → drop (head_len s + 2 + length app + length random) out ≡ drop (head_len s + 2 + length app + length random) was

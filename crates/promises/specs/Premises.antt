-- Demand 2's premises, in page 01's words: no test and no table of checks is named in them but which numbers are marked.
-- Assumes nothing.
use Rattle.std.specs.Prelude.{ℕ, ◌+◌, ◌-◌, ◌^◌, ◌≤◌, ◌<◌, ◌≡◌, ◌⊎◌, true, false, List, length}
use Rattle.channel.specs.Reasons.{BadReceiver, BadSender}
use Rattle.channel.specs.Receiver.{key_of}
use Rattle.channel.specs.declared.receiver.Receiver.{Receiver}
use Rattle.channel.specs.declared.sender.Sender.{Sender}
use Rattle.numbers.specs.Contract.{width_of, seen_by}
use Rattle.record.specs.Setting.{has_partial, rule_of}
use Rattle.record.specs.Header.{Found}
use Rattle.record.specs.Shape.{head_len, mac_len, most_length}
use Rattle.record.specs.Write.{length_for}
use Rattle.record.specs.declared.setting.Setting.{Setting}

-- what the declared type says of a setting: its session is a `u32`, and every value of a `u32` meets this
pub record DeclaredSetting (s : Setting) : Type 0 where
  pub session : s.session < 2 ^ 32

-- ---- the sender

pub record CanBuild (s : Sender) (app random out : List ℕ) : Type 0 where
  pub declared : DeclaredSetting s.setting
  -- it is not State
  pub state : BadSender s → ⊥
  -- its next number is usable
  pub left : s.next < s.setting.limit
  -- no random bytes in mode 0
  pub padding : s.setting.mode ≡ 0 → length random ≡ 0
  -- the Length is at most 65,535
  pub size : length_for s.setting (length app) (length random) ≤ most_length s.setting
  -- there is room for the total, which is the header and Length bytes
  pub room : head_len s.setting + length_for s.setting (length app) (length random) ≤ length out

-- ---- the receiver

-- n is the sender's next number, E that of the key in the slot
pub record CanTake (r : Receiver) (slot : ℕ) (s : Sender) : Type 0 where
  -- it is not State
  pub state : BadReceiver r → ⊥
  -- it is set as the sender is: mode, layout, the MAC's length, profile, width, Session ID and limit
  pub alike : r.setting ≡ s.setting
  -- slot 0, or an old key is held
  pub there : (slot ≡ 0) ⊎ ((slot ≡ 1) × (r.held ≡ true))
  -- the sender's IV is in that slot
  pub iv : (key_of r slot).iv ≡ s.iv
  -- exactly where the number worked out is n. With partial numbers: E ≤ n + 32768, and n ≤ E + 32767 or n ≤ 65535. Without: n is E
  pub reach : Found s.setting (key_of r slot).window.next s.next
  -- E - n is at most the window's width
  pub young : (key_of r slot).window.next - s.next ≤ width_of (rule_of r.setting)
  -- n is not marked
  pub fresh : seen_by (key_of r slot).window s.next ≡ false

-- ---- page 01's numbers

-- what the names above stand for in the setting of a channel: the largest Length, the lengths of header and MAC, the window's width, and Length
-- in mode 0 and in mode 1. Page 01's MAC of 16 bytes is one of the three.
pub record PageNumbers (s : Setting) : Type 0 where
  pub most : most_length s ≡ 65535
  pub head : has_partial s ≡ true → head_len s ≡ 8
  pub bare : has_partial s ≡ false → head_len s ≡ 6
  pub mac : mac_len s ≡ s.mac
  pub macs : (s.mac ≡ 8) ⊎ (s.mac ≡ 12) ⊎ (s.mac ≡ 16)
  pub width : width_of (rule_of s) ≡ s.width
  pub widths : (s.width ≡ 64) ⊎ (s.width ≡ 128) ⊎ (s.width ≡ 192) ⊎ (s.width ≡ 256)
  pub clear : s.mode ≡ 0 → (p q : ℕ) → length_for s p q ≡ p + s.mac
  pub sealed : s.mode ≡ 1 → (p q : ℕ) → length_for s p q ≡ 2 + p + q + s.mac

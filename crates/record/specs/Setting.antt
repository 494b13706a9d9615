-- The setting of a channel, and what it gives the windows of its keys.
-- Assumes nothing.
use Rattle.std.specs.Prelude.{ℕ, Bool, ◌&&◌, ◌||◌, List, [], ◌∷◌, ltb, eqb}
use Rattle.answers.specs.Refusal as Refusal
use Rattle.answers.specs.Table.{Check, differ}
use Rattle.numbers.specs.declared.window.Rule.{Rule}
use Rattle.record.specs.declared.setting.Setting.{Setting}

abbrev pub zero_setting : Setting
zero_setting = record { mode = 0; layout = 0; mac = 0; profile = 0; width = 0; session = 0; limit = 0 }

-- page 01's own: what the requests made variable is as it stands there
abbrev pub page_setting : ℕ → ℕ → ℕ → Setting
page_setting mode session limit = record { mode = mode; layout = 0; mac = 16; profile = 0; width = 64; session = session; limit = limit }

-- field by field
unfoldable pub same_setting : Setting → Setting → Bool
same_setting s t =
    eqb s.mode t.mode
    && eqb s.layout t.layout
    && eqb s.mac t.mac
    && eqb s.profile t.profile
    && eqb s.width t.width
    && eqb s.session t.session
    && eqb s.limit t.limit

-- all its fields are zero
unfoldable pub is_zero_setting : Setting → Bool
is_zero_setting s = same_setting s zero_setting

-- mode 0: message authentication only
unfoldable pub auth_only : Setting → Bool
auth_only s = eqb s.mode 0

-- layout 0: the number is little-endian in the first bytes of a nonce
unfoldable pub number_first : Setting → Bool
number_first s = eqb s.layout 0

-- profile 0: a record's header has a partial number
unfoldable pub has_partial : Setting → Bool
has_partial s = eqb s.profile 0

-- the MAC has 8, 12 or 16 bytes
unfoldable pub bad_mac : Setting → Bool
bad_mac s = differ s.mac 8 && differ s.mac 12 && differ s.mac 16

-- a window remembers 64, 128, 192 or 256 numbers
unfoldable pub bad_width : Setting → Bool
bad_width s = differ s.width 64 && differ s.width 128 && differ s.width 192 && differ s.width 256

-- a mode above 1, a layout above 1, another length of the MAC, a profile above 1, another width, or no usable number
unfoldable pub bad_setting : Setting → Bool
bad_setting s = ltb 1 s.mode || ltb 1 s.layout || bad_mac s || ltb 1 s.profile || bad_width s || eqb s.limit 0

-- 2: what Open refuses
unfoldable pub open_rows : Setting → List Check
open_rows s = (bad_setting s, Refusal.setting) ∷ []

-- the window's width
unfoldable pub window_width : Setting → ℕ
window_width s = s.width

-- the rule of its keys
abbrev pub rule_of : Setting → Rule
rule_of s = record { width = window_width s; limit = s.limit }

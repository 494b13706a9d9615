-- A receive key: its IV and its window.
-- Assumes nothing.
use Rattle.std.specs.Prelude.{ℕ, Bool, ◌&&◌, List}
use Rattle.octets.specs.Fields.{blank}
use Rattle.numbers.specs.Contract.{empty_window, is_empty, after}
use Rattle.record.specs.declared.setting.Setting.{Setting}
use Rattle.record.specs.Setting.{rule_of}
use Rattle.record.specs.Nonce.{zeros12}
use Rattle.channel.specs.declared.key.Key.{Key}

-- the highest key count, of either end
abbrev pub last_count : ℕ
last_count = 4294967295

abbrev pub new_key : List ℕ → Key
new_key iv = record { iv = iv; window = empty_window }

abbrev pub zero_key : Key
zero_key = new_key zeros12

unfoldable pub is_zero_key : Key → Bool
is_zero_key k = blank 12 k.iv && is_empty k.window

-- with the number n marked
abbrev pub remark : Setting → Key → ℕ → Key
remark s k n = record { iv = k.iv; window = after (rule_of s) k.window n }

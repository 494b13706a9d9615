-- Page 01, 'Nonce', and the second maker's layout of request g.
-- Assumes nothing.
use Rattle.std.specs.Prelude.{ℕ, zero, suc, ◌+◌, cond, List, [], ◌∷◌, ◌++◌, get_or, replicate}
use Rattle.std.specs.Int.Bits.{bit_xor}
use Rattle.octets.specs.Fields.{little, big}
use Rattle.record.specs.declared.setting.Setting.{Setting}
use Rattle.record.specs.Setting.{number_first}

-- the list of f at each index from i, k of them
abbrev pub each : (ℕ → ℕ) → ℕ → ℕ → List ℕ
each f i zero = []
each f i (suc k) = f i ∷ each f (i + 1) k

-- a number as 12 bytes. Layout 0: little-endian in the first 8, zeros in the other 4
abbrev pub spread_first : ℕ → List ℕ
spread_first n = little 8 n ++ replicate 4 0

-- layout 1: zeros in the first 4, big-endian in the other 8
abbrev pub spread_last : ℕ → List ℕ
spread_last n = replicate 4 0 ++ big 8 n

unfoldable pub spread : Setting → ℕ → List ℕ
spread s n = cond (number_first s) (spread_first n) (spread_last n)

-- each of k bytes XORed with that of the IV
abbrev pub masked_by : ℕ → List ℕ → List ℕ → List ℕ
masked_by k iv a = each (λ i. bit_xor (get_or a i 0) (get_or iv i 0)) 0 k

unfoldable pub nonce_of : Setting → List ℕ → ℕ → List ℕ
nonce_of s iv n = masked_by 12 iv (spread s n)

-- twelve zero bytes: the nonce and the IV of a refusal
abbrev pub zeros12 : List ℕ
zeros12 = replicate 12 0

-- The plain receiver: it keeps every key that it ever had, newest first, each with the list of all numbers authenticated under it, and
-- never forgets one. It asks its lists with no width in them.
-- Assumes nothing.
use Rattle.std.specs.Prelude.{ℕ, Bool, true, false, cond, List, [], ◌∷◌, eqb, length}
use Rattle.channel.specs.Call.{Call, Answer, Effect, stay, marking, turning, dropping}
use Rattle.channel.specs.Rules.{outcome}
use Rattle.channel.specs.View.{Face, View}
use Rattle.numbers.specs.Memory.{member, next_of}
use Rattle.record.specs.Nonce.{zeros12}
use Rattle.record.specs.Setting.{zero_setting, bad_setting}
use Rattle.record.specs.declared.setting.Setting.{Setting}
use Rattle.promises.specs.Run.{answers_by}

pub record PlainKey : Type 0 where
  pub iv : List ℕ
  pub numbers : List ℕ

-- held: whether the old key, the first of the past ones, may still be asked for
pub record Plain : Type 0 where
  pub setting : Setting
  pub held : Bool
  pub now : PlainKey
  pub past : List PlainKey

abbrev pub new_plain_key : List ℕ → PlainKey
new_plain_key iv = record { iv = iv; numbers = [] }

abbrev pub new_plain : Setting → List ℕ → Plain
new_plain s iv = record { setting = s; held = false; now = new_plain_key iv; past = [] }

-- Open: where the setting is refused, zeros
abbrev pub open_plain : Setting → List ℕ → Plain
open_plain s iv = cond (bad_setting s) (new_plain zero_setting zeros12) (new_plain s iv)

-- ---- what the rules may ask of it

-- E is one more than the highest number of the list, and a number is marked where it is in the list
abbrev pub plain_face : PlainKey → Face
plain_face k = record { iv = k.iv; next = next_of k.numbers; seen = λ n. member n k.numbers }

-- the old key, where it may be asked for
unfoldable pub old_of : Bool → List PlainKey → PlainKey
old_of false past = new_plain_key zeros12
old_of true [] = new_plain_key zeros12
old_of true (k ∷ past) = k

-- its key count is how many keys it had before
unfoldable pub plain_look : Plain → View
plain_look p =
    record {
      setting = p.setting;
      bad = bad_setting p.setting;
      count = length p.past;
      current = plain_face p.now;
      held = p.held;
      old = plain_face (old_of p.held p.past);
    }

-- ---- what an effect makes of it: it adds to a list, or a key, or shuts the old key out

abbrev pub remember : PlainKey → ℕ → PlainKey
remember k n = record { iv = k.iv; numbers = n ∷ k.numbers }

unfoldable pub remember_first : List PlainKey → ℕ → List PlainKey
remember_first [] n = []
remember_first (k ∷ past) n = remember k n ∷ past

unfoldable pub plain_change : Plain → Effect → Plain
plain_change p stay = p
plain_change p (marking slot n) =
    record {
      setting = p.setting;
      held = p.held;
      now = cond (eqb slot 0) (remember p.now n) p.now;
      past = cond (eqb slot 0) p.past (remember_first p.past n);
    }
plain_change p (turning iv) = record { setting = p.setting; held = true; now = new_plain_key iv; past = p.now ∷ p.past }
plain_change p dropping = record { setting = p.setting; held = false; now = p.now; past = p.past }

abbrev pub plain_answers : Plain → List Call → List Answer
plain_answers = answers_by plain_look outcome plain_change

-- What it is to mark a number: it is marked under the key of a slot, and nothing else changes.
-- Assumes nothing.
use Rattle.std.specs.Prelude.{ℕ, ◌+◌, max, ◌≡◌, true, false, ◌&&◌, ◌||◌, leb, eqb}
use Rattle.channel.specs.Call.{Call, offer, settle, gaps, change_key, drop_old}
use Rattle.channel.specs.Receiver.{state_after, key_of}
use Rattle.channel.specs.declared.receiver.Receiver.{Receiver}
use Rattle.numbers.specs.Contract.{width_of, seen_by}
use Rattle.record.specs.Setting.{rule_of}

-- x is r with the number n marked under the key of the slot, and just that
pub record MarksJust (r x : Receiver) (slot n : ℕ) : Type 0 where
  pub setting : x.setting ≡ r.setting
  pub count : x.count ≡ r.count
  pub held : x.held ≡ r.held
  -- the key of the other slot
  pub other_old : eqb slot 0 ≡ true → x.old ≡ r.old
  pub other_current : eqb slot 0 ≡ false → x.current ≡ r.current
  pub iv : (key_of x slot).iv ≡ (key_of r slot).iv
  -- E is one more than n, or what it was where that is more
  pub next : (key_of x slot).window.next ≡ max (key_of r slot).window.next (n + 1)
  -- within the width from it a number is marked where it is n or was marked before, and beyond that none is
  pub seen : (k : ℕ) → seen_by (key_of x slot).window k
      ≡ (leb (key_of x slot).window.next (k + width_of (rule_of r.setting)) && (eqb k n || seen_by (key_of r slot).window k))

-- the call is a Settle, and the state that it returns is the one given with its number marked, and just that
abbrev pub Marked : Receiver → Call → Type 0
Marked r (offer rec slot) = ⊥
Marked r (settle rec slot count n passed plain) = MarksJust r (state_after r (settle rec slot count n passed plain)) slot n
Marked r (gaps slot) = ⊥
Marked r (change_key iv) = ⊥
Marked r drop_old = ⊥

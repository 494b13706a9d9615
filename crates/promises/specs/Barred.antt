-- The bridge's fault: what is said of a record whose number was marked, in a later state.
-- Assumes nothing.
use Rattle.std.specs.Prelude.{ℕ, ◌-◌, ◌≤◌, ◌<◌, ◌≡◌, ◌≢◌, ◌⊎◌, Bool, true, false, List}
use Rattle.answers.specs.Refusal.{authentic}
use Rattle.answers.specs.Refusal as Refusal
use Rattle.channel.specs.Call.{Call, offer, settle, drop_old}
use Rattle.channel.specs.Receiver.{look, answer_to, state_after}
use Rattle.channel.specs.View.{no_key, key_at, count_at, number_at}
use Rattle.channel.specs.declared.receiver.Receiver.{Receiver}
use Rattle.record.specs.Setting.{has_partial}
use Rattle.promises.specs.Run.{reached}

abbrev pub RepeatOrOld : ℕ → Type 0
RepeatOrOld k = (k ≡ Refusal.repeat) ⊎ (k ≡ Refusal.old)

-- the slot holds the key of this count
abbrev pub Holds : Receiver → ℕ → ℕ → Type 0
Holds x slot c = (no_key (look x) slot ≡ false) × (count_at (look x) slot ≡ c)

-- E of the key in the slot
abbrev pub next_in : Receiver → ℕ → ℕ
next_in x slot = (key_at (look x) slot).next

-- of the record r, settled under the key count c and the number n, in the later state x
pub record Barred (x : Receiver) (r : List ℕ) (c n : ℕ) : Type 0 where
  -- no Settle called with c and n, of any record, answers 0 or 14
  pub never : (a : List ℕ) (slot : ℕ) (passed : Bool) (plain : List ℕ) → authentic (answer_to x (settle a slot c n passed plain)).code ≡ false
  -- with partial numbers, in the slot that holds key c, if E - n is at most 32768, Offer of r answers Repeat or Old,
  pub offers : has_partial x.setting ≡ true → (slot : ℕ) → Holds x slot c → next_in x slot - n ≤ 32768 → RepeatOrOld (answer_to x (offer r slot)).code
  -- and so does Settle of r, with whatever count, number, yes or no and plaintext;
  pub settles : has_partial x.setting ≡ true → (slot : ℕ) → Holds x slot c → next_in x slot - n ≤ 32768 → (count number : ℕ) (passed : Bool) (plain : List ℕ)
      → RepeatOrOld (answer_to x (settle r slot count number passed plain)).code
  -- if E - n is above 32768, the number worked out is not n
  pub other : has_partial x.setting ≡ true → (slot : ℕ) → 32768 < next_in x slot - n → number_at (look x) r slot ≢ n
  -- once key c is dropped, no slot has its count
  pub dropped : Holds x 1 c → (answer_to x drop_old).code ≡ 0 → (later : List Call) (slot : ℕ) → Holds (reached (state_after x drop_old) later) slot c → ⊥

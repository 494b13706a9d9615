-- The calls of a receiver, what they answer and what they do to its state.
-- Assumes nothing.
use Rattle.std.specs.Prelude.{ℕ, Bool, List}
use Rattle.record.specs.Nonce.{zeros12}

-- r is a record, passed the cipher's yes or no, plain the plaintext buffer
pub data Call : Type 0 where
  offer : (r : List ℕ) (slot : ℕ) → Call
  settle : (r : List ℕ) (slot count number : ℕ) (passed : Bool) (plain : List ℕ) → Call
  gaps : (slot : ℕ) → Call
  change_key : (iv : List ℕ) → Call
  drop_old : Call

-- code is 0 or the number of a refusal; a call that has no use for a field answers zeros there
pub record Answer : Type 0 where
  pub code : ℕ
  pub count : ℕ
  pub number : ℕ
  pub nonce : List ℕ
  pub assoc : ℕ
  pub text : ℕ
  pub place : ℕ
  pub length : ℕ
  pub gaps : ℕ

-- a number, and zeros in all other fields
abbrev pub only : ℕ → Answer
only k = record { code = k; count = 0; number = 0; nonce = zeros12; assoc = 0; text = 0; place = 0; length = 0; gaps = 0 }

-- what Offer, Settle and Gaps answer with no refusal
abbrev pub offers : ℕ → ℕ → List ℕ → ℕ → ℕ → Answer
offers count number nonce assoc text =
    record { code = 0; count = count; number = number; nonce = nonce; assoc = assoc; text = text; place = 0; length = 0; gaps = 0 }

abbrev pub settles : ℕ → ℕ → Answer
settles place length =
    record { code = 0; count = 0; number = 0; nonce = zeros12; assoc = 0; text = 0; place = place; length = length; gaps = 0 }

abbrev pub counts : ℕ → Answer
counts k =
    record { code = 0; count = 0; number = 0; nonce = zeros12; assoc = 0; text = 0; place = 0; length = 0; gaps = k }

pub data Effect : Type 0 where
  stay : Effect
  marking : (slot n : ℕ) → Effect
  turning : (iv : List ℕ) → Effect
  dropping : Effect

pub record Outcome : Type 0 where
  pub answer : Answer
  pub effect : Effect

-- The steps that the code cuts Offer and Settle into: the checks of Offer, and those of Settle that mark nothing, with what was read
-- on the way.
-- Assumes nothing.
use Rattle.std.specs.Prelude.{ℕ, Bool, cond, List, ◌++◌, Result, Ok, Err}
use Rattle.answers.specs.Table.{first, given}
use Rattle.answers.specs.Answer.{code_of, or_none}
use Rattle.answers.specs.declared.refusal.Refusal.{Refusal}
use Rattle.answers.specs.declared.refusal.Refusal.TheVariants as Refused
use Rattle.record.specs.Nonce.{zeros12}
use Rattle.record.specs.Shape.{assoc_end, text_end, plain_len, data_place}
use Rattle.channel.specs.declared.key.Key.{Key}
use Rattle.channel.specs.declared.receiver.Receiver.{Receiver}
use Rattle.channel.specs.declared.delivery.Look.{Look}
use Rattle.channel.specs.declared.delivery.Verdict.{Verdict}
use Rattle.channel.specs.View.{no_key, number_at}
use Rattle.channel.specs.Rules.{offer_rows, cipher_rows}
use Rattle.channel.specs.Receiver.{look, key_of}

-- the key of a slot, where there is one
unfoldable pub key_there : Receiver → ℕ → Result Key Refusal
key_there r slot = cond (no_key (look r) slot) (Err Refused.Key) (Ok (key_of r slot))

-- what is found, as numbers: 0 and the key's IV, the number and what the record has, or the number of a refusal and zeros
pub record Looked : Type 0 where
  pub answer : ℕ
  pub iv : List ℕ
  pub number : ℕ
  pub assoc : ℕ
  pub text : ℕ
  pub plain : ℕ
  pub place : ℕ

abbrev nothing : Look
nothing = record { iv = zeros12; number = 0; read = record { assoc = 0; text = 0; plain = 0; place = 0 } }

-- what a result is, as numbers
abbrev pub as_looked : Result Look Refusal → Looked
as_looked r =
    let l : Look = or_none nothing r in
    record {
      answer = code_of r;
      iv = l.iv;
      number = l.number;
      assoc = l.read.assoc;
      text = l.read.text;
      plain = l.read.plain;
      place = l.read.place;
    }

abbrev pub no_look : ℕ → Looked
no_look why = record { answer = why; iv = zeros12; number = 0; assoc = 0; text = 0; plain = 0; place = 0 }

abbrev pub looked : Receiver → List ℕ → ℕ → Looked
looked r rec slot =
    record {
      answer = 0;
      iv = (key_of r slot).iv;
      number = number_at (look r) rec slot;
      assoc = assoc_end r.setting rec;
      text = text_end r.setting rec;
      plain = plain_len r.setting rec;
      place = data_place r.setting rec;
    }

unfoldable pub look_of : Receiver → List ℕ → ℕ → Looked
look_of r rec slot = given (first (offer_rows (look r) rec slot)) (looked r rec slot) no_look

unfoldable pub passed_of : Receiver → List ℕ → ℕ → ℕ → ℕ → Bool → List ℕ → Looked
passed_of r rec slot count number passed plain =
    given (first (offer_rows (look r) rec slot ++ cipher_rows (look r) rec slot count number passed plain)) (looked r rec slot) no_look

abbrev pub passed_by : Receiver → Verdict → Looked
passed_by r v = passed_of r v.rec.now v.slot v.count v.number v.passed v.plain.now

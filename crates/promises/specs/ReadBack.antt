-- Demand 2, the way through: the record that goes over the wire, and that it is read back as the data that was sent.
-- Assumes nothing.
use Rattle.std.specs.Prelude.{ℕ, ◌-◌, ◌≡◌, true, List, [], ◌++◌, length, take, drop}
use Rattle.channel.specs.Call.{offer, settle, Answer, offers}
use Rattle.channel.specs.Receiver.{look, answer_to}
use Rattle.channel.specs.Sender.{build_of, build_out}
use Rattle.channel.specs.View.{count_at}
use Rattle.channel.specs.declared.receiver.Receiver.{Receiver}
use Rattle.channel.specs.declared.ffi.Built.{Built}
use Rattle.channel.specs.declared.sender.Sender.{Sender}
use Rattle.record.specs.View.{view_of}

-- ---- Build, and the record made of its buffer at exit

-- what Build answers
abbrev pub built_of : Sender → List ℕ → List ℕ → List ℕ → Built
built_of s app random out = build_of s (length app) (length random) (length out)

-- Build's text: empty in mode 0
abbrev pub text_of : Built → List ℕ → List ℕ
text_of b out = take (b.text - b.assoc) (drop b.assoc out)

-- the bytes of a buffer up to the text, a sealed text in the text's place, and a MAC last
abbrev pub sealed_record : Built → List ℕ → List ℕ → List ℕ → List ℕ
sealed_record b out sealed mac = take b.assoc out ++ (sealed ++ mac)

module _ (s : Sender) (app random out : List ℕ) where
  -- the text in Build's buffer at exit
  abbrev pub plain : List ℕ
  plain = text_of (built_of s app random out) (build_out s app random out)

  module _ (sealed mac : List ℕ) where
    -- bytes 0 to total of Build's buffer at exit, with a text sealed in the text's place and a MAC last
    abbrev pub wire : List ℕ
    wire = sealed_record (built_of s app random out) (build_out s app random out) sealed mac

    -- Settle, with Offer's count and number, the cipher's yes and Build's text
    abbrev pub settled : Receiver → ℕ → Answer
    settled r slot =
        let o = answer_to r (offer wire slot) in
        answer_to r (settle wire slot o.count o.number true plain)

-- ---- it is read back

pub record ReadBack (s : Sender) (app random out sealed mac : List ℕ) (r : Receiver) (slot : ℕ) : Type 0 where
  -- Build answers 0 with the next number
  pub builds : (built_of s app random out).answer ≡ 0
  pub number : (built_of s app random out).number ≡ s.next
  -- the record is as long as Build says, and the MAC stands last, where Build's text ends
  pub total : length (wire s app random out sealed mac) ≡ (built_of s app random out).total
  pub mac_last : drop (built_of s app random out).text (wire s app random out sealed mac) ≡ mac
  -- Offer answers 0 with the slot's key count, that number, Build's nonce and both ends
  pub offered : answer_to r (offer (wire s app random out sealed mac) slot)
      ≡ offers (count_at (look r) slot) s.next (built_of s app random out).nonce (built_of s app random out).assoc (built_of s app random out).text
  -- Build's text is empty in mode 0
  pub no_text : s.setting.mode ≡ 0 → plain s app random out ≡ []
  -- Settle answers 0
  pub settled_it : (settled s app random out sealed mac r slot).code ≡ 0
  -- and the view of its answer is the data
  pub shown : view_of s.setting.mode (settled s app random out sealed mac r slot).place (settled s app random out sealed mac r slot).length
      (wire s app random out sealed mac) (plain s app random out) ≡ app

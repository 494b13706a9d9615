-- Demand 2, the calls: Offer of a record that was built and sealed answers what Build did, Settle of it answers 0, and the view is the data.
-- Assumes nothing.
use Prim.Native.Nat.{ℕ, ◌-◌, ◌≤◌}
use mathlib.Core.Path.{◌≡◌, refl, sym, ap, ◌∙◌}
use mathlib.Core.Logic.{inl, inr}
use mathlib.Core.Bool.{true, false}
use mathlib.Core.List.{List, ◌++◌}
use lib.Dec.{T}
use lib.ListN.{length}
use borrow.Author.Tests.{eq-eqb}
use Rattle.answers.proofs.Table.{numbered, first_past}
use Rattle.answers.specs.Table.{first}
use Rattle.channel.proofs.Look.{face_at}
use Rattle.channel.proofs.Outcome.{answer_ok}
use Rattle.channel.specs.Call.{Call, offer, settle, Answer, offers, settles}
use Rattle.channel.specs.Receiver.{look, answer_to, key_of}
use Rattle.channel.specs.Rules.{state_rows, slot_rows, place_rows_at, offer_rows, cipher_rows, marking_rows, rows, granted}
use Rattle.channel.specs.View.{Face, View, no_key, key_at, count_at, number_at}
use Rattle.channel.specs.declared.receiver.Receiver.{Receiver}
use Rattle.channel.specs.declared.ffi.Built.{Built}
use Rattle.channel.specs.declared.sender.Sender.{Sender}
use Rattle.numbers.specs.Contract.{width_of, seen_by}
use Rattle.numbers.specs.Number.{number_rows}
use Rattle.record.specs.Read.{record_rows, place_rows}
use Rattle.record.specs.Setting.{rule_of}
use Rattle.record.specs.Shape.{mac_len, plain_len, data_place, data_len, inner_bad}
use Rattle.record.specs.View.{view_of}
use Rattle.record.specs.declared.setting.Setting.{Setting}
use Rattle.record.proofs.Fronts.{text_for, same_plain}
use Rattle.record.proofs.Passes.{inner_passes}
use Rattle.record.proofs.Shown.{view_built}
use Rattle.promises.specs.Premises.{CanBuild, CanTake}
use Rattle.promises.specs.ReadBack.{built_of, wire, plain}
use Rattle.promises.proofs.Words.{sender_good, receiver_good}
use Rattle.promises.proofs.Builds.{build_passes, build_answers, buffer_text}
use Rattle.promises.proofs.FramePasses.{frame_passes, wire_length, wire_text_end, wire_assoc_end, wire_assoc}
use Rattle.promises.proofs.NumberFound.{number_found, number_passes}
use Rattle.promises.proofs.Passed.{slot_numbered, frame_numbered}
use Rattle.promises.proofs.Sending.{sender_parts}

-- ---- the slot

has_key : (r : Receiver) (slot : ℕ) (s : Sender) → CanTake r slot s → no_key (look r) slot ≡ false
unfolding no_key look
has_key r slot s R = elim R.there [ inl z ↦ rw z | inr z ↦ rw (z.0, z.1) ]

not_bad : (r : Receiver) (slot : ℕ) (s : Sender) → CanTake r slot s → (look r).bad ≡ false
unfolding look
not_bad r slot s R = receiver_good r R.state

-- the receiver is not State, and has the key that was asked for
pub slot_passes : (r : Receiver) (slot : ℕ) (s : Sender) → CanTake r slot s → first (slot_rows (look r) slot) ≡ 0
unfolding slot_rows state_rows
slot_passes r slot s R = rw (has_key r slot s R, not_bad r slot s R)

-- ---- Build's text

-- it is the text that was built
pub plain_is : (s : Sender) (app random out : List ℕ) → CanBuild s app random out → plain s app random out ≡ text_for s.setting app random
plain_is s app random out B = rw (build_answers s app random out B) (buffer_text s app random out (build_passes s app random out B))

-- ---- the calls

module _ (s : Sender) (app random out sealed mac : List ℕ) (B : CanBuild s app random out)
    (hc : length sealed ≡ (built_of s app random out).text - (built_of s app random out).assoc) (hm : length mac ≡ mac_len s.setting) where
  abbrev t : Setting
  t = s.setting

  abbrev record_sent : List ℕ
  record_sent = wire s app random out sealed mac

  abbrev text : List ℕ
  text = plain s app random out

  -- the plaintext buffer is as long as it should be
  pub plain_passes : length text ≡ plain_len t record_sent
  plain_passes = ap length (plain_is s app random out B) ∙ same_plain t app random record_sent (wire_length s app random out sealed mac B hc hm)

  -- the data is not longer than what is there
  pub inner_good : inner_bad t record_sent text ≡ false
  inner_good =
      ap (λ (x : List ℕ). inner_bad t record_sent x) (plain_is s app random out B)
      ∙ inner_passes t app random record_sent B.size (same_plain t app random record_sent (wire_length s app random out sealed mac B hc hm))

  -- the view of the record, or of the text, is the data
  pub data_shown : view_of t.mode (data_place t record_sent) (data_len t record_sent text) record_sent text ≡ app
  data_shown =
      ap (λ (x : List ℕ). view_of t.mode (data_place t record_sent) (data_len t record_sent x) record_sent x) (plain_is s app random out B)
      ∙ view_built t s.next record_sent app random (sender_parts s (sender_good s B.state)).0 B.size (wire_assoc s app random out sealed mac B hc hm)

  module _ (r : Receiver) (slot : ℕ) (R : CanTake r slot s) where
    abbrev v : View
    v = look r

    sets : v.setting ≡ t
    unfolding look
    sets = R.alike

    number_is : number_at v record_sent slot ≡ s.next
    number_is = rw (sets, face_at r slot) (number_found s app random out sealed mac B hc hm (key_of r slot).window.next R.reach)

    place_none : first (place_rows_at v record_sent slot) ≡ 0
    place_none =
        let w = (key_of r slot).window in
        let y : w.next - s.next ≤ width_of (rule_of t) = rw R.alike at R.young in
        rw (sets, face_at r slot) (number_passes s app random out sealed mac B hc hm w.next (seen_by w) R.reach y R.fresh)

    offer_none : first (offer_rows v record_sent slot) ≡ 0
    unfolding offer_rows
    offer_none =
        first_past (slot_rows v slot) (record_rows v.setting record_sent ++ place_rows_at v record_sent slot) (slot_numbered v slot) (slot_passes r slot s R)
        ∙ first_past (record_rows v.setting record_sent) (place_rows_at v record_sent slot) (frame_numbered v.setting record_sent)
        (rw sets (frame_passes s app random out sealed mac B hc hm))
        ∙ place_none

    -- Offer answers 0 with the slot's key count, the number sent, Build's nonce and both ends
    pub offer_answers : answer_to r (offer record_sent slot)
        ≡ offers (count_at v slot) s.next (built_of s app random out).nonce (built_of s app random out).assoc (built_of s app random out).text
    unfolding rows granted
    offer_answers =
        let i : (key_at v slot).iv ≡ s.iv = ap (λ (f : Face). f.iv) (face_at r slot) ∙ R.iv in
        let a = wire_assoc_end s app random out sealed mac B hc hm in
        let x = wire_text_end s app random out sealed mac B hc hm in
        answer_ok r (offer record_sent slot) offer_none
        ∙ rw (number_is, sets, i, a, x)
        (ap (λ (b : Built). offers (count_at v slot) s.next b.nonce b.assoc b.text) (sym (build_answers s app random out B)))

    -- ---- Settle, with Offer's count and number, yes and Build's text

    abbrev call : Call
    call = settle record_sent slot (count_at v slot) s.next true text

    cipher_none : first (cipher_rows v record_sent slot (count_at v slot) s.next true text) ≡ 0
    unfolding cipher_rows
    cipher_none =
        let f : length text ≡ plain_len v.setting record_sent = rw sets plain_passes in
        rw (number_is, eq-eqb (count_at v slot) (count_at v slot) refl, eq-eqb s.next s.next refl, eq-eqb (length text) (plain_len v.setting record_sent) f)

    marking_none : first (marking_rows v record_sent text) ≡ 0
    unfolding marking_rows
    marking_none = let f : inner_bad v.setting record_sent text ≡ false = rw sets inner_good in rw f

    offer_numbered : T (numbered (offer_rows v record_sent slot))
    unfolding offer_rows slot_rows state_rows record_rows place_rows number_rows
    offer_numbered = tt

    cipher_numbered : T (numbered (cipher_rows v record_sent slot (count_at v slot) s.next true text))
    unfolding cipher_rows
    cipher_numbered = tt

    settle_none : first (rows v call) ≡ 0
    unfolding rows
    settle_none =
        first_past (offer_rows v record_sent slot) (cipher_rows v record_sent slot (count_at v slot) s.next true text ++ marking_rows v record_sent text)
        offer_numbered offer_none
        ∙ first_past (cipher_rows v record_sent slot (count_at v slot) s.next true text) (marking_rows v record_sent text) cipher_numbered cipher_none
        ∙ marking_none

    -- Settle answers 0 with the place and the length of the data
    pub settle_answers : answer_to r call ≡ settles (data_place t record_sent) (data_len t record_sent text)
    unfolding granted
    settle_answers = answer_ok r call settle_none ∙ rw sets

    -- and the view of its answer is the data
    pub settle_shows : view_of t.mode (answer_to r call).place (answer_to r call).length record_sent text ≡ app
    settle_shows = ap (λ (a : Answer). view_of t.mode a.place a.length record_sent text) settle_answers ∙ data_shown

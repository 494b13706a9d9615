-- The three demands, each sentence with its theorem. The definitions that the statements name are the contracts' own (crates answers,
-- numbers, record, channel, mctp); those of runs are in Run, Plain, SendRun and World, of marks in Marks, the premises of demand 2 in
-- Premises, what is read back in ReadBack, page 01's table in Laid, what is barred in Barred, the wrong variants in Wrong.. of specs.
-- Assumes nothing.
use Prim.Native.Nat.{ℕ, ◌+◌, ◌-◌, ◌^◌, ◌≤◌, ◌<◌}
use mathlib.Core.Path.{◌≡◌}
use mathlib.Core.Logic.{◌≢◌, ◌⊎◌, ◌↔◌}
use mathlib.Core.Bool.{Bool, true, false, cond}
use lib.Dec.{leb}
use mathlib.Core.List.{List, [], ◌++◌, map}
use lib.ListN.{length, take, drop}
use Rattle.answers.specs.Reasons.{Tells}
use Rattle.answers.specs.Refusal as Refusal
use Rattle.answers.specs.Refusal.{authentic}
use Rattle.channel.proofs.Zeros as Zeros
use Rattle.channel.specs.Call.{Call, offer, settle, gaps, only}
use Rattle.channel.specs.Receiver.{zero_receiver, bad_receiver, answer_to, state_after, open_receiver, offer_of, settle_of, gaps_of, change_receiver, drop_of}
use Rattle.channel.specs.Rules.{outcome}
use Rattle.channel.specs.Sender.{zero_sender, bad_sender, open_sender, build_of, build_out, change_sender, no_build}
use Rattle.channel.specs.declared.receiver.Receiver.{Receiver}
use Rattle.channel.specs.declared.sender.Sender.{Sender}
use Rattle.mctp.specs.Application.{wrap_data, read_data, body_of}
use Rattle.mctp.specs.Message.{wrap_record, read_message, record_of}
use Rattle.numbers.specs.Memory.{Below}
use Rattle.record.specs.Nonce.{zeros12}
use Rattle.record.specs.Setting.{has_partial}
use Rattle.record.specs.Shape.{mac_len}
use Rattle.record.specs.Reasons.{BadSetting}
use Rattle.record.specs.View.{view_of}
use Rattle.record.specs.declared.setting.Setting.{Setting}
use Rattle.promises.specs.Distinct.{Distinct}
use Rattle.promises.specs.Marks.{MarksJust, Marked}
use Rattle.promises.specs.Run.{answers_of, reached, all_marked, pair_of, all_handed}
use Rattle.promises.specs.Plain.{open_plain, plain_answers}
use Rattle.promises.specs.SendRun.{Send, sending, used, sender_after, turns_in, under, builds_under, from}
use Rattle.promises.specs.World.{Step, start, Each, handed_in, HandsSealed, Cipher, HonestCall}
use Rattle.promises.specs.Premises.{CanBuild, CanTake, PageNumbers}
use Rattle.promises.specs.ReadBack.{built_of, plain, wire, ReadBack}
use Rattle.promises.specs.Laid.{Laid}
use Rattle.promises.specs.Barred.{Barred}
use Rattle.promises.specs.Toy.{key_of}
use Rattle.promises.specs.Examples.{LateRecord, FarBehind}
use Rattle.promises.specs.Ways.{Fails, right_receives, T1, T2, T3, right_builds, Reads}
use Rattle.promises.specs.WrongReceivers.{wrong_receivers, mark_twice}
use Rattle.promises.specs.WrongSenders.{wrong_senders}
use Rattle.promises.specs.WrongBuilds.{wrong_builds}
use Rattle.promises.proofs.Second as Second
use Rattle.promises.proofs.InOrder as InOrder
use Rattle.promises.proofs.Refused as Refused
use Rattle.promises.proofs.Marking as Marking
use Rattle.promises.proofs.Sending as Sending
use Rattle.promises.proofs.Good as Good
use Rattle.promises.proofs.Opening as Opening
use Rattle.promises.proofs.Wrapping as Wrapping
use Rattle.promises.proofs.Words as Words
use Rattle.promises.proofs.Laid as Laying
use Rattle.promises.proofs.Builds as Builds
use Rattle.promises.proofs.FramePasses as FramePasses
use Rattle.promises.proofs.ReadBack as Reading
use Rattle.promises.proofs.Simulation as Simulation
use Rattle.promises.proofs.Once as Once
use Rattle.promises.proofs.Sends as Sends
use Rattle.promises.proofs.Sealed as Sealed
use Rattle.promises.proofs.Toy as Toy
use Rattle.promises.proofs.Examples as Examples
use Rattle.promises.proofs.Bridge as Bridge
use Rattle.promises.proofs.WrongReceivers as WrongReceivers
use Rattle.promises.proofs.WrongSenders as WrongSenders
use Rattle.promises.proofs.WrongBuilds as WrongBuilds

-- ======== 1. Every entry point answers for every state value, record, length and key slot, and nothing is presumed checked. A refusal has its
-- number, hands out no data, writes to no buffer and keeps the state, but for the one case in the table where an authentic record's number is
-- marked.

-- ---- the receiver, in any state, good or bad (its buffers are lent to be read only)

-- Every answer is 0 or a number of the list.
pub receiver_answers : (r : Receiver) (c : Call) → (answer_to r c).code ≤ Refusal.largest
receiver_answers = Refused.answer_within

-- A refusal answers its number, and zeros in all other fields;
pub refusal_answers : (r : Receiver) (c : Call) → (answer_to r c).code ≢ 0 → answer_to r c ≡ only (answer_to r c).code
refusal_answers = Refused.refused_zeros

-- its view is empty, for every mode and buffer;
pub refusal_shows_nothing : (r : Receiver) (c : Call) → (answer_to r c).code ≢ 0 → (mode : ℕ) (rec plain : List ℕ)
    → view_of mode (answer_to r c).place (answer_to r c).length rec plain ≡ []
refusal_shows_nothing = Refused.refused_view

-- and any but Inner returns the state given.
pub refusal_keeps : (r : Receiver) (c : Call) → (answer_to r c).code ≢ 0 → (answer_to r c).code ≢ Refusal.inner → state_after r c ≡ r
refusal_keeps = Marking.others_keep

-- Inner answers its number and zeros, and is a Settle's that marks its number, and just that.
pub inner_marks : (r : Receiver) (c : Call) → (answer_to r c).code ≡ Refusal.inner → (answer_to r c ≡ only Refusal.inner) × Marked r c
inner_marks = Marking.inner_marks

-- So a refusal with which the state changed is Inner: of the refusals it alone marks.
pub changed_marks : (r : Receiver) (c : Call) → (answer_to r c).code ≢ 0 → state_after r c ≢ r → ((answer_to r c).code ≡ Refusal.inner) × Marked r c
changed_marks = Marking.changed_marks

pub inner_alone : (k : ℕ) → (Refusal.marks k ≡ true) ↔ (k ≡ Refusal.inner)
inner_alone = Marking.inner_alone

-- A Settle that answers 0 marks just that, too.
pub marks_just_that : (r : Receiver) (rec : List ℕ) (slot count n : ℕ) (passed : Bool) (plain : List ℕ)
    → authentic (answer_to r (settle rec slot count n passed plain)).code ≡ true
    → MarksJust r (state_after r (settle rec slot count n passed plain)) slot n
marks_just_that = Marking.marks_just

-- Offer and Gaps never change the state.
pub asking_keeps : (r : Receiver) → ((rec : List ℕ) (slot : ℕ) → state_after r (offer rec slot) ≡ r) × ((slot : ℕ) → state_after r (gaps slot) ≡ r)
asking_keeps r = (Refused.offer_stays r, Refused.gaps_stays r)

-- The same of the declared answers that the contracts name.
pub refused_offer : (r : Receiver) (rec : List ℕ) (slot : ℕ) → (offer_of r rec slot).answer ≢ 0
    → offer_of r rec slot ≡ record { answer = (offer_of r rec slot).answer; count = 0; number = 0; nonce = zeros12; assoc = 0; text = 0 }
refused_offer = Refused.refused_offer

pub refused_settle : (r : Receiver) (rec : List ℕ) (slot count number : ℕ) (passed : Bool) (plain : List ℕ)
    → (settle_of r rec slot count number passed plain).answer ≢ 0 → Refusal.marks (settle_of r rec slot count number passed plain).answer ≡ false
    → settle_of r rec slot count number passed plain
    ≡ record { answer = (settle_of r rec slot count number passed plain).answer; place = 0; length = 0; next = r }
refused_settle = Refused.refused_settle

pub refused_gaps : (r : Receiver) (slot : ℕ) → (gaps_of r slot).answer ≢ 0 → gaps_of r slot ≡ record { answer = (gaps_of r slot).answer; gaps = 0 }
refused_gaps = Refused.refused_gaps

pub refused_change : (r : Receiver) (iv : List ℕ) → (change_receiver r iv).answer ≢ 0
    → change_receiver r iv ≡ record { answer = (change_receiver r iv).answer; next = r }
refused_change = Refused.refused_change

pub refused_drop : (r : Receiver) → (drop_of r).answer ≢ 0 → drop_of r ≡ record { answer = (drop_of r).answer; next = r }
refused_drop = Refused.refused_drop

-- ---- the sender, in any state

-- A refused Build answers its number and zeros, returns the state given and leaves the buffer as it was.
pub refused_build : (s : Sender) (app random out : List ℕ) → (build_of s (length app) (length random) (length out)).answer ≢ 0
    → (build_of s (length app) (length random) (length out) ≡ no_build s (build_of s (length app) (length random) (length out)).answer)
    × (build_out s app random out ≡ out)
refused_build = Sending.refused_build

-- A refused key change answers its number and returns the state given.
pub refused_turn : (s : Sender) (iv : List ℕ) → (change_sender s iv).answer ≢ 0 → change_sender s iv ≡ record { answer = (change_sender s iv).answer; next = s }
refused_turn = Sending.refused_turn

pub sender_answers : (s : Sender) → ((p q room : ℕ) → (build_of s p q room).answer ≤ Refusal.largest)
    × ((iv : List ℕ) → (change_sender s iv).answer ≤ Refusal.largest)
sender_answers s = (Sending.build_within s, Sending.turn_within s)

-- ---- the wrapping

-- A refused writer answers its number and no length, and leaves the buffer as it was.
pub refused_wrap_data : (integrity : Bool) (kind : ℕ) (body out : List ℕ) → (wrap_data integrity kind body out).0.answer ≢ 0
    → wrap_data integrity kind body out ≡ (record { answer = (wrap_data integrity kind body out).0.answer; length = 0 }, out)
refused_wrap_data = Wrapping.refused_wrap_data

pub refused_wrap_record : (rec out : List ℕ) → (wrap_record rec out).0.answer ≢ 0
    → wrap_record rec out ≡ (record { answer = (wrap_record rec out).0.answer; length = 0 }, out)
refused_wrap_record = Wrapping.refused_wrap_record

-- A refused reader answers its number, no bit, no type and an empty part.
pub refused_data : (app : List ℕ) → (read_data app).answer ≢ 0
    → (read_data app ≡ record { answer = (read_data app).answer; integrity = false; kind = 0 }) × (body_of app ≡ [])
refused_data = Wrapping.refused_data

pub refused_message : (message : List ℕ) → read_message message ≢ 0 → record_of message ≡ []
refused_message = Wrapping.refused_message

pub wrapping_answers : ((integrity : Bool) (kind : ℕ) (body out : List ℕ) → (wrap_data integrity kind body out).0.answer ≤ Refusal.largest)
    × ((rec out : List ℕ) → (wrap_record rec out).0.answer ≤ Refusal.largest)
    × ((bytes : List ℕ) → ((read_data bytes).answer ≤ Refusal.largest) × (read_message bytes ≤ Refusal.largest))
wrapping_answers = (Wrapping.wrap_data_within, Wrapping.wrap_record_within, Wrapping.read_within)

-- ---- No call returns a bad state from a good one.

pub stays_good : (r : Receiver) (c : Call) → bad_receiver r ≡ false → bad_receiver (state_after r c) ≡ false
stays_good = Good.good_kept

pub sender_stays_good : (s : Sender) → bad_sender s ≡ false
    → ((p q room : ℕ) → bad_sender (build_of s p q room).next ≡ false) × ((iv : List ℕ) → bad_sender (change_sender s iv).next ≡ false)
sender_stays_good s g = (λ p q room. Sending.build_good s p q room g, λ iv. Sending.turn_good s iv g)

pub opens_good : (s : Setting) (iv : List ℕ)
    → ((open_receiver s iv).answer ≡ 0 → bad_receiver (open_receiver s iv).next ≡ false) × ((open_sender s iv).answer ≡ 0 → bad_sender (open_sender s iv).next ≡ false)
opens_good s iv = (Opening.opens_good_receiver s iv, Opening.opens_good_sender s iv)

-- ---- A refused open, of sender or receiver, answers 2 and zeros, and every later call on those zeros is State.

pub refused_open : (s : Setting) (iv : List ℕ)
    → ((open_receiver s iv).answer ≢ 0 → open_receiver s iv ≡ record { answer = Refusal.setting; next = zero_receiver })
    × ((open_sender s iv).answer ≢ 0 → open_sender s iv ≡ record { answer = Refusal.setting; next = zero_sender })
refused_open s iv = (Opening.refused_open_receiver s iv, Opening.refused_open_sender s iv)

pub zeros_are_state : ((c : Call) → (answer_to zero_receiver c ≡ only Refusal.state) × (state_after zero_receiver c ≡ zero_receiver))
    × ((app random out : List ℕ)
    → (build_of zero_sender (length app) (length random) (length out) ≡ no_build zero_sender Refusal.state) × (build_out zero_sender app random out ≡ out))
    × ((iv : List ℕ) → change_sender zero_sender iv ≡ record { answer = Refusal.state; next = zero_sender })
zeros_are_state = (Zeros.zeros_refused, Zeros.zeros_build, Zeros.zeros_change)

pub zeros_for_ever : (calls : List Call) → answers_of zero_receiver calls ≡ map (λ c. only Refusal.state) calls
zeros_for_ever = Opening.zeros_for_ever

-- ======== 2. Records are built and read as DSP0277 version 1 lays them out with the DSP0276 partial number, in both session modes. What our
-- sender builds and the cipher seals, our receiver reads back as the same application data, if it is set the same, works out the number sent,
-- and that passes its checks.

-- The numbers that page 01 gives to the names of the shape.
pub page_numbers : (s : Setting) → (BadSetting s → ⊥) → PageNumbers s
page_numbers = Words.page_numbers

-- The layout: page 01's table, offset by offset, in both modes.
pub layout : (s : Sender) (app random out : List ℕ) → CanBuild s app random out
    → Laid s.setting s.next app random out (build_out s app random out)
layout = Laying.laid

-- MAC bytes and all beyond the total stay unwritten, in every state and on a refusal too.
pub unwritten : (s : Sender) (app random out : List ℕ)
    → drop (built_of s app random out).text (build_out s app random out) ≡ drop (built_of s app random out).text out
unwritten = Builds.unwritten

-- The way through. The record is what Build left in its buffer up to the end of the associated data, any text of the text's length sealed in
-- its place, and any bytes for the MAC, as many as the setting says; with its own text in place it is Build's buffer and those bytes.
pub read_back : (s : Sender) (app random out sealed mac : List ℕ) (r : Receiver) (slot : ℕ)
    → CanBuild s app random out → CanTake r slot s
    → length sealed ≡ (built_of s app random out).text - (built_of s app random out).assoc → length mac ≡ mac_len s.setting
    → ReadBack s app random out sealed mac r slot
read_back = Reading.read_back

pub wire_is_buffer : (s : Sender) (app random out mac : List ℕ) → CanBuild s app random out
    → wire s app random out (plain s app random out) mac ≡ take (built_of s app random out).text (build_out s app random out) ++ mac
wire_is_buffer = FramePasses.wire_own

-- ======== 3.

-- T1. Over any run of receive calls, key changes and drops from a new channel, each given the state the last one returned, the receiver with
-- its 64-number window (since request f of the setting's width) answers as a plain receiver that remembers every authenticated number of every key and has the same age rule.
pub answers_as_plain : (s : Setting) (iv : List ℕ) (calls : List Call)
    → answers_of (open_receiver s iv).next calls ≡ plain_answers (open_plain s iv) calls
answers_as_plain = Simulation.as_plain

-- T2. So no number is handed out twice under one key: nor is any marked twice.
pub marked_once : (s : Setting) (iv : List ℕ) (calls : List Call) → Distinct (all_marked calls (answers_of (open_receiver s iv).next calls))
marked_once = Once.marked_once

pub handed_out_once : (s : Setting) (iv : List ℕ) (calls : List Call)
    → Distinct (map pair_of (all_handed s calls (answers_of (open_receiver s iv).next calls)))
handed_out_once = Once.handed_once

-- T3. A sender's run likewise uses 0, 1, 2 and on under each key, none twice, whatever the host's cipher then did.
pub sends_in_order : (s : Setting) (iv : List ℕ) (sends : List Send) (c : ℕ)
    → under c (used (open_sender s iv).next sends) ≡ from 0 (builds_under c (open_sender s iv).next sends)
sends_in_order = Sends.used_in_order

pub sent_once : (s : Setting) (iv : List ℕ) (sends : List Send) → Distinct (used (open_sender s iv).next sends)
sent_once = Sends.used_once

-- A sender's key count is the number of the key changes that it was granted,
pub count_is_changes : (s : Setting) (iv : List ℕ) (sends : List Send)
    → (sender_after (open_sender s iv).next sends).count ≡ turns_in (open_sender s iv).next sends
count_is_changes = Sends.count_is_turns

-- and the number of each build is the number of earlier builds of the run under that key count.
pub number_is_earlier_builds : (s : Setting) (iv : List ℕ) (before : List Send) (p q room : ℕ)
    → let x = sender_after (open_sender s iv).next before in
    (build_of x p q room).answer ≡ 0 → (build_of x p q room).number ≡ builds_under x.count (open_sender s iv).next before
number_is_earlier_builds = Sends.number_is_earlier_builds

-- T4. If, besides, both ends are set alike, no key is used again after a change, each Settle is given the cipher's own answer and text for the
-- very record, key and number it is called with, and the cipher says yes only to what our sender built and sealed under that key and number,
-- header included, and gives back that text (World, Honest: alike, no_reuse, own, genuine), then all that is handed out was sent: an earlier
-- step sealed that data under that key count and number.
pub handed_was_sealed : {K : Type 0} (C : Cipher K) (sendKey receiveKey : ℕ → K) (s : Setting) (iv : List ℕ) (t : Setting) (iw : List ℕ) (steps : List Step)
    → Each (HonestCall C sendKey receiveKey) (start s iv t iw) steps → Each (HandsSealed t) (start s iv t iw) steps
handed_was_sealed = Sealed.all_sealed

-- And it is handed out once (whatever the cipher is, and whoever sends).
pub handed_once_in : (s : Setting) (iv : List ℕ) (t : Setting) (iw : List ℕ) (steps : List Step)
    → Distinct (map pair_of (handed_in t (start s iv t iw) steps))
handed_once_in = Sealed.handed_in_once

-- The assumptions can be met together, by a cipher with keys of 32 bytes that differ, on a run that hands data out in both modes: with a forged
-- record, a repeated one, a key change and a late record of the old key.
pub assumptions_met : (m : ℕ) → m ≤ 1 → LateRecord m
assumptions_met = Examples.late_record_lem

pub toy_keys : ((c : ℕ) → (length (key_of c) ≡ 32) × Below 256 (key_of c)) × ((a b : ℕ) → a < 2 ^ 32 → b < 2 ^ 32 → key_of a ≡ key_of b → a ≡ b)
toy_keys = (λ c. (Toy.key_length c, Toy.key_bytes c), Toy.keys_differ)

-- ---- The bridge keeps the last record of a hung board in its mailbox and delivers it again.

-- Let a Settle of the record r under key count c and number n answer 0 or 14. In every later state of the run (Barred): no Settle called with c
-- and n, of any record, answers 0 or 14; in the slot that holds key c, if E - n is at most 32768, Offer and Settle of r answer Repeat or Old; if
-- E - n is above 32768, the number worked out is not n; once key c is dropped, no slot has its count.
pub delivered_again : (s : Setting) (iv : List ℕ) (before later : List Call) (r : List ℕ) (slot c n : ℕ) (passed : Bool) (plain : List ℕ)
    → authentic (answer_to (reached (open_receiver s iv).next before) (settle r slot c n passed plain)).code ≡ true
    → Barred (reached (state_after (reached (open_receiver s iv).next before) (settle r slot c n passed plain)) later) r c n
delivered_again = Bridge.barred_for_ever

pub zero_or_inner : (k : ℕ) → Tells (authentic k) ((k ≡ 0) ⊎ (k ≡ Refusal.inner))
zero_or_inner = Bridge.authentic_told

-- Repeat is not for ever: beyond 32768 the same record may be offered with the answer 0, as another number.
pub repeat_not_for_ever : FarBehind
repeat_not_for_ever = Examples.far_behind_lem

-- ======== Request h: a profile that sends no partial numbers. T1 to T4 and demand 2 above hold of it as they stand.

-- The number is always E, so Old and Repeat do not occur, in any state.
pub never_old : (x : Receiver) → has_partial x.setting ≡ false → (c : Call) → (answer_to x c).code ≢ Refusal.old
never_old = Second.never_old

pub never_repeat : (x : Receiver) → has_partial x.setting ≡ false → (c : Call) → (answer_to x c).code ≢ Refusal.repeat
never_repeat = Second.never_repeat

-- Settling one offer twice is Stale, or Spent at the limit: the first time it answered 0 or 14, and the second time the cipher may say what it
-- will, with whatever text.
pub settled_twice : (x : Receiver) (r : List ℕ) (slot count n : ℕ) (passed : Bool) (plain : List ℕ) → has_partial x.setting ≡ false
    → authentic (answer_to x (settle r slot count n passed plain)).code ≡ true → (again : Bool) (text : List ℕ)
    → (answer_to (state_after x (settle r slot count n passed plain)) (settle r slot count n again text)).code
    ≡ cond (leb x.setting.limit (n + 1)) Refusal.spent Refusal.stale
settled_twice = Second.settled_twice

-- In any run from a new channel the numbers marked under each key count are 0, 1, 2 and on with no gaps,
pub marked_in_order : (s : Setting) (iv : List ℕ) (calls : List Call) (c : ℕ) → has_partial s ≡ false
    → let l = under c (all_marked calls (answers_of (open_receiver s iv).next calls)) in l ≡ from 0 (length l)
marked_in_order = InOrder.marked_in_order

-- and the gap count is always 0.
pub never_gaps : (s : Setting) (iv : List ℕ) (calls : List Call) (slot : ℕ) → has_partial s ≡ false
    → (answer_to (reached (open_receiver s iv).next calls) (gaps slot)).gaps ≡ 0
never_gaps = InOrder.never_gaps

-- ======== The theorems bite: each fails of every wrong variant on its list, and holds of the right ones.

pub wrong_receivers_fail : Fails (λ x. T1 x.0) wrong_receivers
wrong_receivers_fail = WrongReceivers.wrong_receivers_fail

pub mark_twice_fail : Fails (λ x. T2 x.0) mark_twice
mark_twice_fail = WrongReceivers.mark_twice_fail

pub wrong_senders_fail : Fails (λ x. T3 x.0) wrong_senders
wrong_senders_fail = WrongSenders.wrong_senders_fail

pub wrong_builds_fail : Fails (λ x. Reads x.0 x.1) wrong_builds
wrong_builds_fail = WrongBuilds.wrong_builds_fail

pub right_ones_hold : T1 right_receives × T2 right_receives × T3 sending × Reads outcome right_builds
right_ones_hold = (WrongReceivers.right_answers, WrongReceivers.right_marks, WrongSenders.right_sends, WrongBuilds.right_builds_lem)

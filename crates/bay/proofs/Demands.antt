-- Request a, each sentence with its theorem. The table is in Ends, Table, Doors and Calls of specs; which row a call reaches in Reach, the
-- reasons of its refusals in Reasons, what Inner does in Marking, runs in TableRun and RowRun, T4's steps and assumptions in Peer. Everything
-- else is the channel's own, of crates channel and promises.
-- Assumes nothing.
use Prim.Native.Nat.{ℕ, ◌≤◌, ◌<◌}
use mathlib.Core.Path.{◌≡◌}
use mathlib.Core.Logic.{◌≢◌, ◌↔◌}
use mathlib.Core.Bool.{Bool, true, false}
use mathlib.Core.List.{List, [], ◌∷◌, ◌++◌, map, Memᴰ}
use lib.ListN.{length}
use Rattle.answers.specs.Reasons.{Tells, Decided}
use Rattle.answers.specs.Refusal as Refusal
use Rattle.answers.specs.Refusal.{authentic}
use Rattle.answers.specs.Table.{first}
use Rattle.record.specs.declared.setting.Setting.{Setting}
use Rattle.channel.proofs.Zeros.{TypedKey}
use Rattle.channel.specs.Call.{Call, offer, settle, only}
use Rattle.channel.specs.Reasons.{reasons, build_reasons, change_reasons}
use Rattle.channel.specs.Receiver.{answer_to, open_receiver}
use Rattle.channel.specs.Sender.{no_build, open_sender}
use Rattle.promises.specs.Barred.{Barred}
use Rattle.promises.specs.Distinct.{Distinct}
use Rattle.promises.specs.Plain.{open_plain, plain_answers}
use Rattle.promises.specs.Run.{all_marked, Item, pair_of, handed_by, all_handed}
use Rattle.promises.specs.SendRun.{turns_in, under, from}
use Rattle.promises.specs.World.{Step, Sent, start, Each, handed_in, HandsSealed, world_after, Cipher}
use Rattle.rows.specs.Ends.{Ends, free_ends, is_free, id_of}
use Rattle.controller.specs.Table.{row_at, clashes}
use Rattle.record.specs.Shape.{head_len, shortest}
use Rattle.controller.specs.Doors.{Door, session, number, id_in, place, door_rows}
use Rattle.controller.specs.Calls.{TableCall, leave, receive, row_to, open_in, close_in, receive_in, build_in, build_out_in, turn_in, table_after}
use Rattle.bay.specs.Reach.{target, code_in, checks_of, reaches}
use Rattle.bay.specs.Reasons.{Free, Open, Has, Clash, door_reasons, new_reasons}
use Rattle.bay.specs.Marking.{MarkedIn}
use Rattle.bay.specs.TableRun.{empty_table, table_run}
use Rattle.bay.specs.RowRun.{calls_to, answers_at, sends_to, replies_at, used_by, StaysOpen, RunsAs, new_row, opened}
use Rattle.bay.specs.Peer.{BayStep, call, calls_in, steps_to, steps_from, through_row, Foreign, HonestCallIn}
use Rattle.bay.specs.Examples.{MetInRow, HandedAgain, OldKeys}
use Rattle.bay.proofs.Answering as Answering
use Rattle.bay.proofs.Keeping as Keeping
use Rattle.bay.proofs.Told as Told
use Rattle.bay.proofs.Decisions as Decisions
use Rattle.bay.proofs.Apart as Apart
use Rattle.bay.proofs.Never as Never
use Rattle.bay.proofs.OneRow as OneRow
use Rattle.bay.proofs.State as State
use Rattle.bay.proofs.PerRow as PerRow
use Rattle.bay.proofs.Reaching as Reaching
use Rattle.bay.proofs.Inward as Inward
use Rattle.bay.proofs.Outward as Outward
use Rattle.bay.proofs.EveryRun as EveryRun
use Rattle.bay.proofs.Examples as Examples

-- ======== A table of rows, each free (all zeros) or holding one receiver and one sender with the same Session ID.

-- A row is free exactly where it is all zeros (the premises are what the declared types say of it).
pub free_is_zeros : (e : Ends) → TypedKey e.receiver.current → TypedKey e.receiver.old → length e.sender.iv ≡ 12
    → Tells (is_free e) (e ≡ free_ends)
free_is_zeros = Decisions.free_told

-- From an empty table of n rows on (size: sixteen), over any run of calls: it keeps its n rows,
pub same_rows : (n : ℕ) (cs : List TableCall) → length (table_run (empty_table n) cs) ≡ n
same_rows = Apart.length_from_empty

-- an open row's two have the same Session ID,
pub same_id : (n : ℕ) (cs : List TableCall) (i : ℕ) → let t = table_run (empty_table n) cs in
    Open (row_at t i) → (row_at t i).receiver.setting.session ≡ (row_at t i).sender.setting.session
same_id n cs = Apart.paired _ (Apart.fine_from_empty n cs)

-- no two open rows share one,
pub not_shared : (n : ℕ) (cs : List TableCall) (i j : ℕ) → let t = table_run (empty_table n) cs in
    Open (row_at t i) → Open (row_at t j) → id_of (row_at t i) ≡ id_of (row_at t j) → i ≡ j
not_shared n cs = Apart.alone _ (Apart.fine_from_empty n cs)

-- and so rows never clash, and no call is State: neither by the table's own checks nor by a row's.
pub never_clashes : (n : ℕ) (cs : List TableCall) → clashes (table_run (empty_table n) cs) ≡ false
never_clashes = Apart.never_clashes

pub never_state : (n : ℕ) (cs : List TableCall) (c : TableCall) → code_in (table_run (empty_table n) cs) c ≢ Refusal.state
never_state = State.no_state

-- ======== It opens, closes, delivers by Session ID and builds by row. Open takes the lowest free row and answers its number.

pub open_takes_lowest : (t : List Ends) (s : Setting) → (open_in t s).0 ≡ 0
    → let i = (open_in t s).1 in (i < length t) × Free (row_at t i) × ((j : ℕ) → j < i → Open (row_at t j))
open_takes_lowest = Decisions.open_takes

-- The row then holds a channel's receiver and sender, newly opened; Close frees it.
pub open_opens : (t : List Ends) (s : Setting) (iv iw : List ℕ) → (open_in t s).0 ≡ 0
    → row_at (opened t s iv iw) (new_row t s) ≡ record { receiver = (open_receiver s iv).next; sender = (open_sender s iw).next }
open_opens = OneRow.new_row_lem

pub close_frees : (t : List Ends) (i : ℕ) → close_in t i ≡ 0 → row_at (table_after t (leave i)) i ≡ free_ends
close_frees = Keeping.closed_free

-- From an empty table on delivery reaches the one row that has the record's Session ID.
pub delivery_finds : (n : ℕ) (cs : List TableCall) (j : ℕ) (r : List ℕ) → let t = table_run (empty_table n) cs in
    Open (row_at t j) → id_of (row_at t j) ≡ id_in r → place t (session r) ≡ j
delivery_finds n cs = Apart.delivers _ (Apart.fine_from_empty n cs)

-- Where rows do not clash, the calls that reach row i are: by number those with its number, if it is open; by Session ID those whose record is no
-- shorter than the shortest header (6 bytes, since request h) and has its Session ID, if it is open.
pub number_reaches : (i : ℕ) (t : List Ends) → clashes t ≡ false → (c : Call) (j : ℕ)
    → Tells (reaches i t (receive (number j) c)) ((j ≡ i) × Open (row_at t i))
number_reaches = Reaching.number_reaches

pub session_reaches : (i : ℕ) (t : List Ends) → clashes t ≡ false → (c : Call) (r : List ℕ)
    → Tells (reaches i t (receive (session r) c)) ((shortest ≤ length r) × Has (id_in r) (row_at t i))
session_reaches = Reaching.session_reaches

-- A call that reaches a row is answered by it.
pub row_answers : (i : ℕ) (t : List Ends) (d : Door) (c : Call) → reaches i t (receive d c) ≡ true → receive_in t d c ≡ answer_to (row_at t i).receiver c
row_answers = PerRow.row_answers

-- An Offer or a Settle that is delivered by the very record that it carries is never Session in its row, and Short only where the record is
-- shorter than that row's own header (request h: the table's own Short is under 6 bytes for every row).
pub offer_ours : (t : List Ends) (r : List ℕ) → first (door_rows t (session r)) ≡ 0 → (slot : ℕ) → let x = (row_to t (session r)).receiver in
    let k = (answer_to x (offer r slot)).code in (head_len x.setting ≤ length r → k ≢ Refusal.short) × (k ≢ Refusal.session)
offer_ours = Never.offer_ours

pub settle_ours : (t : List Ends) (r : List ℕ) → first (door_rows t (session r)) ≡ 0 → (slot count n : ℕ) (passed : Bool) (plain : List ℕ)
    → let x = (row_to t (session r)).receiver in
    let k = (answer_to x (settle r slot count n passed plain)).code in (head_len x.setting ≤ length r → k ≢ Refusal.short) × (k ≢ Refusal.session)
settle_ours = Never.settle_ours

-- ======== Delivering changes only its row. (Of every call, in every table, good or bad.)

pub own_row : (t : List Ends) (c : TableCall) (j : ℕ) → j ≢ target t c → row_at (table_after t c) j ≡ row_at t j
own_row = Keeping.own_row

pub same_length : (t : List Ends) (c : TableCall) → length (table_after t c) ≡ length t
same_length = Keeping.same_length

-- ---- Demand 1, of the table: every call answers 0 or a number of the list,

pub table_answers : (t : List Ends) (c : TableCall) → code_in t c ≤ Refusal.unknown
table_answers = Answering.codes_within

-- a refusal answers its number and zeros,
pub refused_open : (t : List Ends) (s : Setting) → (open_in t s).0 ≢ 0 → open_in t s ≡ ((open_in t s).0, 0)
refused_open = Answering.refused_open_zeros

pub refused_receive : (t : List Ends) (d : Door) (c : Call) → (receive_in t d c).code ≢ 0 → receive_in t d c ≡ only (receive_in t d c).code
refused_receive = Answering.refused_zeros

pub refused_build : (t : List Ends) (i : ℕ) (app random out : List ℕ) → (build_in t i (length app) (length random) (length out)).answer ≢ 0
    → build_in t i (length app) (length random) (length out) ≡ no_build (row_at t i).sender (build_in t i (length app) (length random) (length out)).answer
refused_build = Answering.refused_build_zeros

-- leaves a buffer as it was,
pub refused_build_writes_nothing : (t : List Ends) (i : ℕ) (app random out : List ℕ)
    → (build_in t i (length app) (length random) (length out)).answer ≢ 0 → build_out_in t i app random out ≡ out
refused_build_writes_nothing = Keeping.buffer_kept

-- and keeps the whole table, but Inner,
pub refusal_keeps : (t : List Ends) (c : TableCall) → code_in t c ≢ 0 → code_in t c ≢ Refusal.inner → table_after t c ≡ t
refusal_keeps = Keeping.refusal_keeps

-- which is a receiver's call that marks its number in its row, and changes nothing else.
pub inner_marks_row : (t : List Ends) (c : TableCall) → code_in t c ≡ Refusal.inner → MarkedIn t c
inner_marks_row = Keeping.inner_marks_row

-- ======== Demand 3 is now read per row, from open to close.

-- Let an open be granted, and then a run of any calls in which no Close of its row is granted. The calls that reach the row are a run of a
-- channel that was opened so: the table answers what the channel does, and the row is after it what the channel is.
pub row_is_channel : (t : List Ends) (s : Setting) (iv iw : List ℕ) → (open_in t s).0 ≡ 0 → (cs : List TableCall)
    → StaysOpen (new_row t s) (opened t s iv iw) cs
    → RunsAs (new_row t s) (opened t s iv iw) cs (open_receiver s iv).next (open_sender s iw).next
row_is_channel = OneRow.row_is_channel

-- So calls for other rows change neither the row nor its answers.
pub only_its_calls : (t : List Ends) (s : Setting) (iv iw : List ℕ) → (open_in t s).0 ≡ 0 → (cs cs' : List TableCall)
    → StaysOpen (new_row t s) (opened t s iv iw) cs → StaysOpen (new_row t s) (opened t s iv iw) cs'
    → calls_to (new_row t s) (opened t s iv iw) cs ≡ calls_to (new_row t s) (opened t s iv iw) cs'
    → (answers_at (new_row t s) (opened t s iv iw) cs ≡ answers_at (new_row t s) (opened t s iv iw) cs')
    × ((row_at (table_run (opened t s iv iw) cs) (new_row t s)).receiver ≡ (row_at (table_run (opened t s iv iw) cs') (new_row t s)).receiver)
only_its_calls = PerRow.only_its_calls

pub only_its_sends : (t : List Ends) (s : Setting) (iv iw : List ℕ) → (open_in t s).0 ≡ 0 → (cs cs' : List TableCall)
    → StaysOpen (new_row t s) (opened t s iv iw) cs → StaysOpen (new_row t s) (opened t s iv iw) cs'
    → sends_to (new_row t s) (opened t s iv iw) cs ≡ sends_to (new_row t s) (opened t s iv iw) cs'
    → (replies_at (new_row t s) (opened t s iv iw) cs ≡ replies_at (new_row t s) (opened t s iv iw) cs')
    × ((row_at (table_run (opened t s iv iw) cs) (new_row t s)).sender ≡ (row_at (table_run (opened t s iv iw) cs') (new_row t s)).sender)
only_its_sends = PerRow.only_its_sends

-- And any run of a channel is one of a row: nothing is left out by reading it so.
pub every_run : (t : List Ends) (s : Setting) (iv iw : List ℕ) → (open_in t s).0 ≡ 0 → (steps : List Step)
    → (steps_to (new_row t s) (opened t s iv iw) (through_row (new_row t s) steps) ≡ steps)
    × StaysOpen (new_row t s) (opened t s iv iw) (calls_in (through_row (new_row t s) steps))
every_run = EveryRun.every_run

module _ (t : List Ends) (s : Setting) (iv iw : List ℕ) (granted : (open_in t s).0 ≡ 0) (cs : List TableCall)
    (stays : StaysOpen (new_row t s) (opened t s iv iw) cs) where
  -- the row, and the table after its open
  abbrev i : ℕ
  i = new_row t s

  abbrev u : List Ends
  u = opened t s iv iw

  -- T1. The row answers as a plain receiver that remembers every authenticated number of every key and has the same age rule.
  pub answers_as_plain : answers_at i u cs ≡ plain_answers (open_plain s iv) (calls_to i u cs)
  answers_as_plain = PerRow.as_plain t s iv iw granted cs stays

  -- T2. So no number is handed out twice under one key: nor is any marked twice.
  pub marked_once : Distinct (all_marked (calls_to i u cs) (answers_at i u cs))
  marked_once = PerRow.marked_once t s iv iw granted cs stays

  pub handed_out_once : Distinct (map pair_of (all_handed s (calls_to i u cs) (answers_at i u cs)))
  handed_out_once = PerRow.handed_once t s iv iw granted cs stays

  -- T3. The row's sender likewise uses 0, 1, 2 and on under each key, none twice, whatever the host's cipher then did.
  pub sends_in_order : (c : ℕ) → under c (used_by 0 (replies_at i u cs)) ≡ from 0 (length (under c (used_by 0 (replies_at i u cs))))
  sends_in_order = PerRow.sends_in_order t s iv iw granted cs stays

  pub sent_once : Distinct (used_by 0 (replies_at i u cs))
  sent_once = PerRow.sent_once t s iv iw granted cs stays

  -- Its key count is the number of the key changes that it was granted, and the number of a build is how many the row built before under it.
  pub count_is_changes : (row_at (table_run u cs) i).sender.count ≡ turns_in (open_sender s iw).next (sends_to i u cs)
  count_is_changes = PerRow.count_is_changes t s iv iw granted cs stays

  pub number_is_earlier_builds : (p q room : ℕ) → (build_in (table_run u cs) i p q room).answer ≡ 0
      → (build_in (table_run u cs) i p q room).number ≡ length (under (row_at (table_run u cs) i).sender.count (used_by 0 (replies_at i u cs)))
  number_is_earlier_builds = PerRow.number_is_earlier_builds t s iv iw granted cs stays

-- The bridge's fault: let a Settle of the record r under key count c and number n reach the row and answer 0 or 14. In every later state of the
-- row, as long as it is not closed, what is said of the record in a channel holds (Barred).
pub delivered_again : (t : List Ends) (s : Setting) (iv iw : List ℕ) → (open_in t s).0 ≡ 0 → (before later : List TableCall) (d : Door)
    (r : List ℕ) (slot c n : ℕ) (passed : Bool) (plain : List ℕ)
    → StaysOpen (new_row t s) (opened t s iv iw) (before ++ receive d (settle r slot c n passed plain) ∷ later)
    → reaches (new_row t s) (table_run (opened t s iv iw) before) (receive d (settle r slot c n passed plain)) ≡ true
    → authentic (receive_in (table_run (opened t s iv iw) before) d (settle r slot c n passed plain)).code ≡ true
    → Barred (row_at (table_run (opened t s iv iw) (before ++ receive d (settle r slot c n passed plain) ∷ later)) (new_row t s)).receiver r c n
delivered_again = PerRow.delivered_again

-- ======== A reopened row is a new channel and depends on new keys.

-- T4. Let an open be granted, in any table, and then a run in which the table's calls are mixed with the steps of the peer at the other end of
-- that row's channel (its setting is p, its IV pv), and no Close of the row is granted. If each Settle that reaches the row is honest
-- (HonestIn: alike, no_reuse, own, genuine; fresh), then all that the row hands out was sealed by an earlier step of its own peer, under that key
-- count and number. The cipher may say yes to what any other channel's peer sealed under its keys (others); fresh says that this channel's are
-- new.
pub handed_was_sealed : {K : Type 0} (C : Cipher K) (sendKey receiveKey : ℕ → K) (others : List (Foreign K))
    (t : List Ends) (s : Setting) (iv iw : List ℕ) → (open_in t s).0 ≡ 0 → (p : Setting) (pv : List ℕ) (before : List BayStep) (d : Door) (c : Call)
    → StaysOpen (new_row t s) (opened t s iv iw) (calls_in before)
    → reaches (new_row t s) (table_run (opened t s iv iw) (calls_in before)) (receive d c) ≡ true
    → Each (HonestCallIn C sendKey receiveKey others) (start p pv s iv) (steps_to (new_row t s) (opened t s iv iw) (before ++ call (receive d c) ∷ []))
    → (x : Item) → Memᴰ x (handed_by s c (receive_in (table_run (opened t s iv iw) (calls_in before)) d c))
    → Memᴰ x (map (λ (b : Sent). b.item) (world_after (start p pv s iv) (steps_to (new_row t s) (opened t s iv iw) before)).sealed)
handed_was_sealed = Inward.handed_was_sealed

-- And it is handed out once (whatever the cipher is, and whoever sends).
pub handed_once_in : (t : List Ends) (s : Setting) (iv iw : List ℕ) (p : Setting) (pv : List ℕ) (steps : List BayStep)
    → Distinct (map pair_of (handed_in s (start p pv s iv) (steps_to (new_row t s) (opened t s iv iw) steps)))
handed_once_in = Inward.handed_once_in

-- The other way: what the peer hands out was sealed by an earlier step, of what the row's sender built (the channel's sender is the row's).
pub peer_handed_was_sealed : (t : List Ends) (s : Setting) (iv iw : List ℕ) (p : Setting) (pv : List ℕ) (steps : List BayStep)
    → {K : Type 0} (C : Cipher K) (sendKey receiveKey : ℕ → K) (others : List (Foreign K))
    → Each (HonestCallIn C sendKey receiveKey others) (start s iw p pv) (steps_from (new_row t s) (opened t s iv iw) steps)
    → Each (HandsSealed p) (start s iw p pv) (steps_from (new_row t s) (opened t s iv iw) steps)
peer_handed_was_sealed = Outward.peer_handed_was_sealed

pub row_sender : (t : List Ends) (s : Setting) (iv iw : List ℕ) (p : Setting) (pv : List ℕ) (steps : List BayStep) → (open_in t s).0 ≡ 0
    → StaysOpen (new_row t s) (opened t s iv iw) (calls_in steps)
    → (row_at (table_run (opened t s iv iw) (calls_in steps)) (new_row t s)).sender
    ≡ (world_after (start s iw p pv) (steps_from (new_row t s) (opened t s iv iw) steps)).sender
row_sender = Outward.row_sender

-- The assumptions can be met together, with a record that another row sealed under another key.
pub assumptions_met : (m : ℕ) → m ≤ 1 → MetInRow m
assumptions_met = Examples.met_in_row

-- With the old keys a reopened row hands out the same record again: all is assumed of that delivery but fresh, and what it hands out was not
-- sealed in this channel.
pub old_keys_hand_again : ((m : ℕ) → m ≤ 1 → HandedAgain m) × OldKeys 1
old_keys_hand_again = (Examples.handed_again, Examples.old_keys)

-- ======== Refusals: on open Setting, then Twice (Session ID in an open row), then Rows (none free);

pub open_decided : (t : List Ends) (s : Setting) → Decided (open_in t s).0 (new_reasons t s)
open_decided = Decisions.open_decided

-- on delivery Short, then Unknown (no open row has that Session ID), then 01's order for that row; any call by row at a free row or beyond the
-- last is Unknown before 01's order.
pub receive_decided : (t : List Ends) (d : Door) (c : Call) → TypedKey (row_to t d).receiver.old
    → Decided (receive_in t d c).code (door_reasons t d ++ reasons (row_to t d).receiver c)
receive_decided = Decisions.receive_decided

pub build_decided : (t : List Ends) (i p q room : ℕ)
    → Decided (build_in t i p q room).answer (door_reasons t (number i) ++ build_reasons (row_at t i).sender p q room)
build_decided = Decisions.build_decided

pub turn_decided : (t : List Ends) (i : ℕ) (iv : List ℕ) → Decided (turn_in t i iv) (door_reasons t (number i) ++ change_reasons (row_at t i).sender)
turn_decided = Decisions.turn_decided

pub close_decided : (t : List Ends) (i : ℕ) → Decided (close_in t i) (door_reasons t (number i))
close_decided = Decisions.close_decided

-- ======== Every call is State first if two open rows share a Session ID or a row's two differ.

pub clash_in_words : (t : List Ends) → Tells (clashes t) (Clash t)
clash_in_words = Told.clash_told

pub own_state : (t : List Ends) (c : TableCall) → (first (checks_of t c) ≡ Refusal.state) ↔ Clash t
own_state = State.own_state

pub clash_is_state : (t : List Ends) → Clash t → (c : TableCall) → code_in t c ≡ Refusal.state
clash_is_state = State.clash_state

-- Demand 3 read per row, from open to close: each theorem of a channel's run, of the calls that reach the row.
-- Assumes nothing.
use Prim.Native.Nat.{ℕ, ◌+◌}
use mathlib.Core.Path.{◌≡◌, refl, sym, ap, ◌∙◌}
use mathlib.Core.Bool.{Bool, true, cond}
use lib.Dec.{eqb}
use mathlib.Core.List.{List, [], ◌∷◌, ◌++◌, map}
use lib.ListN.{length}
use Rattle.answers.specs.Refusal.{authentic}
use Rattle.record.specs.declared.setting.Setting.{Setting}
use Rattle.channel.specs.Call.{Call, settle}
use Rattle.channel.specs.Receiver.{look, change, answer_to, state_after, open_receiver}
use Rattle.channel.specs.Rules.{outcome}
use Rattle.channel.specs.Sender.{open_sender, build_of}
use Rattle.channel.specs.declared.receiver.Receiver.{Receiver}
use Rattle.channel.specs.declared.ffi.Built.{Built}
use Rattle.channel.specs.declared.sender.Sender.{Sender}
use Rattle.promises.specs.Barred.{Barred}
use Rattle.promises.specs.Distinct.{Distinct}
use Rattle.promises.specs.Plain.{open_plain, plain_answers}
use Rattle.promises.specs.Run.{after_by, reach_by, answers_of, reached, all_marked, pair_of, all_handed}
use Rattle.promises.specs.SendRun.{Send, build, turn_key, failed, sending, used, sender_after, turns_in, under, from}
use Rattle.promises.specs.SendRun as Sends
use Rattle.promises.proofs.Demands as Base
use Rattle.rows.specs.Ends.{Ends}
use Rattle.controller.specs.Table.{row_at}
use Rattle.controller.specs.Doors.{Door}
use Rattle.controller.specs.Calls.{TableCall, receive, open_in, receive_in, build_in, table_after}
use Rattle.bay.specs.Reach.{checks_of, target, reaches}
use Rattle.bay.specs.TableRun.{table_run}
use Rattle.bay.specs.RowRun.{gather, call_of, calls_to, answers_at, sends_to, replies_at, reply_of, replies_of, used_by, StaysOpen, RunsAs, new_row, opened}
use Rattle.bay.proofs.Answering.{receive_own, granted_build}
use Rattle.bay.proofs.Joined.{reach_join, gather_join, open_before}
use Rattle.bay.proofs.OneRow.{reach_parts, row_is_channel}

-- ---- what was used, read off the answers

used_read : (k : ℕ) (s : Sender) (cs : List Send) → used_by k (replies_of s cs) ≡ Sends.used_by sending k s cs
unfolding used_by replies_of reply_of Sends.used_by sending
used_read k s [] = refl
used_read k s (build app random out ∷ cs) = rw (used_read k (sending s (build app random out)).next cs)
used_read k s (turn_key iv ∷ cs) = used_read (cond (eqb (sending s (turn_key iv)).code 0) (k + 1) k) (sending s (turn_key iv)).next cs
used_read k s (failed ∷ cs) = used_read k s cs

-- ---- T1 to T3

module _ (t : List Ends) (s : Setting) (iv iw : List ℕ) (z : (open_in t s).0 ≡ 0) (cs : List TableCall)
    (k : StaysOpen (new_row t s) (opened t s iv iw) cs) where
  abbrev i : ℕ
  i = new_row t s

  abbrev u : List Ends
  u = opened t s iv iw

  channel : RunsAs i u cs (open_receiver s iv).next (open_sender s iw).next
  channel = row_is_channel t s iv iw z cs k

  pub as_plain : answers_at i u cs ≡ plain_answers (open_plain s iv) (calls_to i u cs)
  as_plain = channel.answers ∙ Base.answers_as_plain s iv (calls_to i u cs)

  pub marked_once : Distinct (all_marked (calls_to i u cs) (answers_at i u cs))
  marked_once = rw channel.answers (Base.marked_once s iv (calls_to i u cs))

  pub handed_once : Distinct (map pair_of (all_handed s (calls_to i u cs) (answers_at i u cs)))
  handed_once = rw channel.answers (Base.handed_out_once s iv (calls_to i u cs))

  -- what was used by the row is what the channel's sender uses
  used_is : used_by 0 (replies_at i u cs) ≡ used (open_sender s iw).next (sends_to i u cs)
  used_is = ap (used_by 0) channel.replies ∙ used_read 0 (open_sender s iw).next (sends_to i u cs)

  pub sends_in_order : (c : ℕ) → under c (used_by 0 (replies_at i u cs)) ≡ from 0 (length (under c (used_by 0 (replies_at i u cs))))
  sends_in_order c = rw used_is (Base.sends_in_order s iw (sends_to i u cs) c)

  pub sent_once : Distinct (used_by 0 (replies_at i u cs))
  sent_once = rw used_is (Base.sent_once s iw (sends_to i u cs))

  -- its key count is the number of the key changes that it was granted
  pub count_is_changes : (row_at (table_run u cs) i).sender.count ≡ turns_in (open_sender s iw).next (sends_to i u cs)
  count_is_changes = ap (λ (x : Sender). x.count) channel.sender ∙ Base.count_is_changes s iw (sends_to i u cs)

  -- and the number of a build that is granted then, how many the row built before under that key count
  pub number_is_earlier_builds : (p q room : ℕ) → (build_in (table_run u cs) i p q room).answer ≡ 0
      → (build_in (table_run u cs) i p q room).number ≡ length (under (row_at (table_run u cs) i).sender.count (used_by 0 (replies_at i u cs)))
  number_is_earlier_builds p q room z =
      let e = granted_build (table_run u cs) i p q room z ∙ ap (λ (x : Sender). build_of x p q room) channel.sender in
      rw (e, channel.sender, used_is)
      (Base.number_is_earlier_builds s iw (sends_to i u cs) p q room (sym (ap (λ (b : Built). b.answer) e) ∙ z))

-- ---- calls for other rows

module _ (t : List Ends) (s : Setting) (iv iw : List ℕ) (z : (open_in t s).0 ≡ 0) (cs cs' : List TableCall)
    (k : StaysOpen (new_row t s) (opened t s iv iw) cs) (k' : StaysOpen (new_row t s) (opened t s iv iw) cs') where
  -- two runs with the same calls to the row's receiver have the same answers of it, and leave it in the same state
  pub only_its_calls : calls_to (new_row t s) (opened t s iv iw) cs ≡ calls_to (new_row t s) (opened t s iv iw) cs'
      → (answers_at (new_row t s) (opened t s iv iw) cs ≡ answers_at (new_row t s) (opened t s iv iw) cs')
      × ((row_at (table_run (opened t s iv iw) cs) (new_row t s)).receiver ≡ (row_at (table_run (opened t s iv iw) cs') (new_row t s)).receiver)
  only_its_calls e =
      let A = row_is_channel t s iv iw z cs k in
      let B = row_is_channel t s iv iw z cs' k' in
      (A.answers ∙ ap (answers_of (open_receiver s iv).next) e ∙ sym B.answers, A.receiver ∙ ap (reached (open_receiver s iv).next) e ∙ sym B.receiver)

  -- and of its sender
  pub only_its_sends : sends_to (new_row t s) (opened t s iv iw) cs ≡ sends_to (new_row t s) (opened t s iv iw) cs'
      → (replies_at (new_row t s) (opened t s iv iw) cs ≡ replies_at (new_row t s) (opened t s iv iw) cs')
      × ((row_at (table_run (opened t s iv iw) cs) (new_row t s)).sender ≡ (row_at (table_run (opened t s iv iw) cs') (new_row t s)).sender)
  only_its_sends e =
      let A = row_is_channel t s iv iw z cs k in
      let B = row_is_channel t s iv iw z cs' k' in
      (A.replies ∙ ap (replies_of (open_sender s iw).next) e ∙ sym B.replies, A.sender ∙ ap (sender_after (open_sender s iw).next) e ∙ sym B.sender)

-- ---- a call that reaches a row

-- the table answers to it what the row does
pub row_answers : (i : ℕ) (t : List Ends) (d : Door) (c : Call) → reaches i t (receive d c) ≡ true → receive_in t d c ≡ answer_to (row_at t i).receiver c
unfolding checks_of target
row_answers i t d c h = let p = reach_parts i t (receive d c) h in receive_own t d c p.0 ∙ rw p.1

-- ---- delivered again

module _ (t : List Ends) (s : Setting) (iv iw : List ℕ) (z : (open_in t s).0 ≡ 0) (before later : List TableCall) (d : Door) (c : Call)
    (k : StaysOpen (new_row t s) (opened t s iv iw) (before ++ receive d c ∷ later))
    (h : reaches (new_row t s) (table_run (opened t s iv iw) before) (receive d c) ≡ true) where
  abbrev now : List Ends
  now = table_run (opened t s iv iw) before

  abbrev earlier : List Call
  earlier = calls_to (new_row t s) (opened t s iv iw) before

  -- the row's receiver before the call
  before_it : (row_at now (new_row t s)).receiver ≡ reached (open_receiver s iv).next earlier
  before_it = (row_is_channel t s iv iw z before (open_before _ _ before _ k)).receiver

  -- the calls of the whole run
  around : calls_to (new_row t s) (opened t s iv iw) (before ++ receive d c ∷ later)
      ≡ earlier ++ c ∷ calls_to (new_row t s) (table_after now (receive d c)) later
  unfolding gather call_of
  around = gather_join (λ t. call_of) (new_row t s) (opened t s iv iw) before (receive d c ∷ later) ∙ rw h

  -- and after the run
  after_it : (row_at (table_run (opened t s iv iw) (before ++ receive d c ∷ later)) (new_row t s)).receiver
      ≡ reached (state_after (reached (open_receiver s iv).next earlier) c) (calls_to (new_row t s) (table_after now (receive d c)) later)
  unfolding reach_by after_by state_after
  after_it =
      (row_is_channel t s iv iw z (before ++ receive d c ∷ later) k).receiver ∙ ap (reached (open_receiver s iv).next) around
      ∙ reach_join look outcome change (open_receiver s iv).next earlier _

pub delivered_again : (t : List Ends) (s : Setting) (iv iw : List ℕ) → (open_in t s).0 ≡ 0 → (before later : List TableCall) (d : Door)
    (r : List ℕ) (slot c n : ℕ) (passed : Bool) (plain : List ℕ)
    → StaysOpen (new_row t s) (opened t s iv iw) (before ++ receive d (settle r slot c n passed plain) ∷ later)
    → reaches (new_row t s) (table_run (opened t s iv iw) before) (receive d (settle r slot c n passed plain)) ≡ true
    → authentic (receive_in (table_run (opened t s iv iw) before) d (settle r slot c n passed plain)).code ≡ true
    → Barred (row_at (table_run (opened t s iv iw) (before ++ receive d (settle r slot c n passed plain) ∷ later)) (new_row t s)).receiver r c n
delivered_again t s iv iw z before later d r slot c n passed plain k h a =
    let call : Call = settle r slot c n passed plain in
    let own = row_answers (new_row t s) (table_run (opened t s iv iw) before) d call h ∙ ap (λ (x : Receiver). answer_to x call) (before_it t s iv iw z before later d call k h) in
    rw (after_it t s iv iw z before later d call k h)
    (Base.delivered_again s iv (earlier t s iv iw z before later d call k h) _ r slot c n passed plain (rw own at a))

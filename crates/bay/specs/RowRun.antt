-- What reaches one row in a run of table calls, and what the table answers to that.
-- Assumes nothing.
use Rattle.std.specs.Prelude.{ℕ, ◌+◌, ◌≡◌, Bool, false, cond, List, [], ◌∷◌, ◌++◌, eqb, length}
use Rattle.record.specs.declared.setting.Setting.{Setting}
use Rattle.channel.specs.Call.{Call, Answer}
use Rattle.channel.specs.Sender.{build_of, build_out, change_sender}
use Rattle.channel.specs.declared.receiver.Receiver.{Receiver}
use Rattle.channel.specs.declared.ffi.Built.{Built}
use Rattle.channel.specs.declared.sender.Sender.{Sender}
use Rattle.promises.specs.Run.{answers_of, reached}
use Rattle.promises.specs.SendRun.{Send, turn_key, failed, sending, sender_after}
use Rattle.promises.specs.SendRun as Sends
use Rattle.rows.specs.Ends.{Ends}
use Rattle.controller.specs.Table.{row_at}
use Rattle.controller.specs.Calls.{TableCall, enter, leave, receive, build, turn, open_in, receive_in, build_in, build_out_in, turn_in, table_after}
use Rattle.bay.specs.Reach.{reaches}
use Rattle.bay.specs.TableRun.{table_run}

-- f of each call that reaches row i, with the table that it is given, joined
unfoldable pub gather : {A : Type 0} → (List Ends → TableCall → List A) → ℕ → List Ends → List TableCall → List A
gather f i t [] = []
gather f i t (c ∷ cs) = cond (reaches i t c) (f t c) [] ++ gather f i (table_after t c) cs

-- ---- the receiver's calls, by Session ID or by number, and what the table answers

unfoldable pub call_of : TableCall → List Call
call_of (enter s iv iw) = []
call_of (leave i) = []
call_of (receive d c) = c ∷ []
call_of (build i app random out) = []
call_of (turn i iv) = []

unfoldable pub answer_in : List Ends → TableCall → List Answer
answer_in t (enter s iv iw) = []
answer_in t (leave i) = []
answer_in t (receive d c) = receive_in t d c ∷ []
answer_in t (build i app random out) = []
answer_in t (turn i iv) = []

abbrev pub calls_to : ℕ → List Ends → List TableCall → List Call
calls_to = gather (λ t. call_of)

abbrev pub answers_at : ℕ → List Ends → List TableCall → List Answer
answers_at = gather answer_in

-- ---- the sender's calls, and what the table answers

unfoldable pub send_of : TableCall → List Send
send_of (enter s iv iw) = []
send_of (leave i) = []
send_of (receive d c) = []
send_of (build i app random out) = Sends.build app random out ∷ []
send_of (turn i iv) = turn_key iv ∷ []

-- Build answers as it does, and leaves a buffer; a key change answers a number
pub data Reply : Type 0 where
  built : (b : Built) (out : List ℕ) → Reply
  turned : (code : ℕ) → Reply
  silent : Reply

unfoldable pub reply_in : List Ends → TableCall → List Reply
reply_in t (enter s iv iw) = []
reply_in t (leave i) = []
reply_in t (receive d c) = []
reply_in t (build i app random out) = built (build_in t i (length app) (length random) (length out)) (build_out_in t i app random out) ∷ []
reply_in t (turn i iv) = turned (turn_in t i iv) ∷ []

abbrev pub sends_to : ℕ → List Ends → List TableCall → List Send
sends_to = gather (λ t. send_of)

abbrev pub replies_at : ℕ → List Ends → List TableCall → List Reply
replies_at = gather reply_in

-- ---- what a channel's own sender answers over a run

unfoldable pub reply_of : Sender → Send → Reply
reply_of s (Sends.build app random out) = built (build_of s (length app) (length random) (length out)) (build_out s app random out)
reply_of s (turn_key iv) = turned (change_sender s iv).answer
reply_of s failed = silent

unfoldable pub replies_of : Sender → List Send → List Reply
replies_of s [] = []
replies_of s (c ∷ cs) = reply_of s c ∷ replies_of (sending s c).next cs

-- the key count and number of each record that was built, in order, read off the answers; k key changes were granted before
unfoldable pub used_by : ℕ → List Reply → List (ℕ × ℕ)
used_by k [] = []
used_by k (built b out ∷ rest) = cond (eqb b.answer 0) ((k, b.number) ∷ []) [] ++ used_by k rest
used_by k (turned code ∷ rest) = used_by (cond (eqb code 0) (k + 1) k) rest
used_by k (silent ∷ rest) = used_by k rest

-- ---- from open to close

-- the call is a Close of row i that is granted
unfoldable pub closes : ℕ → List Ends → TableCall → Bool
closes i t (enter s iv iw) = false
closes i t (leave j) = reaches i t (leave j)
closes i t (receive d c) = false
closes i t (build j app random out) = false
closes i t (turn j iv) = false

-- no call of the run closes row i
abbrev pub StaysOpen : ℕ → List Ends → List TableCall → Type 0
StaysOpen i t [] = Unit {0}
StaysOpen i t (c ∷ cs) = (closes i t c ≡ false) × StaysOpen i (table_after t c) cs

-- the calls that reach row i in the run are a run of a channel with the receiver r and the sender s: the table answers what they answer,
-- and the row is after it what they are
pub record RunsAs (i : ℕ) (t : List Ends) (cs : List TableCall) (r : Receiver) (s : Sender) : Type 0 where
  pub answers : answers_at i t cs ≡ answers_of r (calls_to i t cs)
  pub receiver : (row_at (table_run t cs) i).receiver ≡ reached r (calls_to i t cs)
  pub replies : replies_at i t cs ≡ replies_of s (sends_to i t cs)
  pub sender : (row_at (table_run t cs) i).sender ≡ sender_after s (sends_to i t cs)

-- the row that Open takes, and the table after it
abbrev pub new_row : List Ends → Setting → ℕ
new_row t s = (open_in t s).1

abbrev pub opened : List Ends → Setting → List ℕ → List ℕ → List Ends
opened t s iv iw = table_after t (enter s iv iw)

-- The table's calls among the steps of the peer at the other end of one row's channel, and what is assumed of the cipher for the whole bay.
-- Assumes nothing.
use Rattle.std.specs.Prelude.{ℕ, ◌≤◌, ◌≡◌, ◌≢◌, ◌⊎◌, Bool, true, cond}
use mathlib.Core.List.{List, [], ◌∷◌, ◌++◌, map, Memᴰ}
use Rattle.channel.specs.Call.{Call, offer, settle, gaps, change_key, drop_old}
use Rattle.promises.specs.SendRun.{Send, turn_key, failed}
use Rattle.promises.specs.SendRun as Sends
use Rattle.promises.specs.World.{Step, Sent, World, Cipher, SealedBefore, assoc_of, counts_of}
use Rattle.promises.specs.World as World
use Rattle.rows.specs.Ends.{Ends}
use Rattle.controller.specs.Doors as Doors
use Rattle.controller.specs.Calls.{TableCall, receive, table_after}
use Rattle.bay.specs.Reach.{reaches}
use Rattle.bay.specs.RowRun.{call_of, send_of}

-- ---- the steps

pub data BayStep : Type 0 where
  -- a call of the table, for whichever row
  call : (c : TableCall) → BayStep
  -- the peer builds a record, changes its key, seals the record that it built i records ago
  build : (app random out : List ℕ) → BayStep
  turn : (iv : List ℕ) → BayStep
  seal : (i : ℕ) → BayStep
  -- the controller's host seals the record that the row built i records ago, and the peer's receiver is called
  seal_own : (i : ℕ) → BayStep
  take : (c : Call) → BayStep

-- the table's calls of the run
unfoldable pub calls_in : List BayStep → List TableCall
calls_in [] = []
calls_in (call c ∷ rest) = c ∷ calls_in rest
calls_in (build app random out ∷ rest) = calls_in rest
calls_in (turn iv ∷ rest) = calls_in rest
calls_in (seal i ∷ rest) = calls_in rest
calls_in (seal_own i ∷ rest) = calls_in rest
calls_in (take c ∷ rest) = calls_in rest

-- the steps of row i's channel on the way to the row: the peer's sender's, and the calls that reach the row's receiver
unfoldable pub steps_to : ℕ → List Ends → List BayStep → List Step
steps_to i t [] = []
steps_to i t (call c ∷ rest) = map World.receive (cond (reaches i t c) (call_of c) []) ++ steps_to i (table_after t c) rest
steps_to i t (build app random out ∷ rest) = World.build app random out ∷ steps_to i t rest
steps_to i t (turn iv ∷ rest) = World.turn iv ∷ steps_to i t rest
steps_to i t (seal j ∷ rest) = World.seal j ∷ steps_to i t rest
steps_to i t (seal_own j ∷ rest) = steps_to i t rest
steps_to i t (take c ∷ rest) = steps_to i t rest

-- and on the way from it: the calls that reach the row's sender, and the peer's receiver's
unfoldable pub send_steps : List Send → List Step
send_steps [] = []
send_steps (Sends.build app random out ∷ rest) = World.build app random out ∷ send_steps rest
send_steps (turn_key iv ∷ rest) = World.turn iv ∷ send_steps rest
send_steps (failed ∷ rest) = send_steps rest

unfoldable pub steps_from : ℕ → List Ends → List BayStep → List Step
steps_from i t [] = []
steps_from i t (call c ∷ rest) = send_steps (cond (reaches i t c) (send_of c) []) ++ steps_from i (table_after t c) rest
steps_from i t (build app random out ∷ rest) = steps_from i t rest
steps_from i t (turn iv ∷ rest) = steps_from i t rest
steps_from i t (seal j ∷ rest) = steps_from i t rest
steps_from i t (seal_own j ∷ rest) = World.seal j ∷ steps_from i t rest
steps_from i t (take c ∷ rest) = World.receive c ∷ steps_from i t rest

-- the steps of a channel, with its receiver in row i
unfoldable pub through_row : ℕ → List Step → List BayStep
through_row i [] = []
through_row i (World.build app random out ∷ rest) = build app random out ∷ through_row i rest
through_row i (World.turn iv ∷ rest) = turn iv ∷ through_row i rest
through_row i (World.seal j ∷ rest) = seal j ∷ through_row i rest
through_row i (World.receive c ∷ rest) = call (receive (Doors.number i) c) ∷ through_row i rest

-- ---- the cipher and its user

-- a record that a peer of another channel sealed, of another row's or of an earlier one of this row, and the key that it was sealed under
pub record Foreign (K : Type 0) : Type 0 where
  pub key : K
  pub sent : Sent

-- one of them was sealed under this key and this number, with these associated bytes and this text
pub record SealedElsewhere {K : Type 0} (others : List (Foreign K)) (key : K) (number : ℕ) (assoc text : List ℕ) : Type 0 where
  pub one : Foreign K
  pub there : Memᴰ one others
  pub under_key : one.key ≡ key
  pub under_number : one.sent.item.number ≡ number
  pub same_assoc : one.sent.assoc ≡ assoc
  pub same_text : one.sent.text ≡ text

-- the key of each key count at the sender and at the receiver, of which one is in the row
module _ {K : Type 0} (C : Cipher K) (sendKey receiveKey : ℕ → K) (others : List (Foreign K)) where
  -- what is assumed of a Settle of the channel, with the world that the steps before it left: first of ends, user and cipher,
  pub record HonestBay (w : World) (r : List ℕ) (count number : ℕ) (passed : Bool) (plain : List ℕ) : Type 0 where
    -- both ends are set alike: they have the same setting, and the same key for each key count of the run
    pub alike : (w.sender.setting ≡ w.receiver.setting) × ((c : ℕ) → c ≤ counts_of w → sendKey c ≡ receiveKey c)
    -- no key is used again after a change: among the key counts of the run equal keys have equal counts
    pub no_reuse : (a b : ℕ) → a ≤ counts_of w → b ≤ counts_of w → sendKey a ≡ sendKey b → a ≡ b
    -- Settle is given the cipher's own answer for the very record, key and number it is called with, and on yes the cipher's text
    pub own : (passed ≡ C.says (receiveKey count) number r) × (passed ≡ true → plain ≡ C.text (receiveKey count) number r)
    -- the cipher says yes only to what some channel's peer built and sealed under that key and number, header included, and gives back that text
    pub genuine : C.says (receiveKey count) number r ≡ true
        → SealedBefore sendKey w (receiveKey count) number (assoc_of w.receiver.setting r) (C.text (receiveKey count) number r)
        ⊎ SealedElsewhere others (receiveKey count) number (assoc_of w.receiver.setting r) (C.text (receiveKey count) number r)

  -- and then of the channel's keys
  pub record HonestIn (w : World) (r : List ℕ) (count number : ℕ) (passed : Bool) (plain : List ℕ) : Type 0 where
    pub bay : HonestBay w r count number passed plain
    -- the key is new: it was used by no earlier channel of this row, and by no other row
    pub fresh : (x : Foreign K) → Memᴰ x others → x.key ≢ receiveKey count

  -- it is assumed of the Settles only
  abbrev pub HonestCallIn : World → Call → Type 0
  HonestCallIn w (offer r slot) = Unit {0}
  HonestCallIn w (settle r slot count number passed plain) = HonestIn w r count number passed plain
  HonestCallIn w (gaps slot) = Unit {0}
  HonestCallIn w (change_key iv) = Unit {0}
  HonestCallIn w drop_old = Unit {0}

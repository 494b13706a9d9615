-- Both ends of a channel and a cipher between them: one list of steps, from the opens of both ends.
-- Assumes nothing.
use Rattle.std.specs.Prelude.{ℕ, zero, suc, ◌-◌, ◌≤◌, max, ◌≡◌, Bool, true, cond, eqb, length, take, drop}
use mathlib.Core.List.{List, [], ◌∷◌, ◌++◌, map, Memᴰ}
use Rattle.channel.specs.Call.{Call, offer, settle, gaps, change_key, drop_old}
use Rattle.channel.specs.Receiver.{answer_to, state_after, open_receiver}
use Rattle.channel.specs.Sender.{open_sender, build_of, build_out, change_sender}
use Rattle.channel.specs.declared.receiver.Receiver.{Receiver}
use Rattle.channel.specs.declared.ffi.Built.{Built}
use Rattle.channel.specs.declared.sender.Sender.{Sender}
use Rattle.record.specs.Shape.{assoc_end}
use Rattle.record.specs.declared.setting.Setting.{Setting}
use Rattle.promises.specs.Run.{Item, handed_by}
use Rattle.promises.specs.SendRun as Sends

-- ---- the steps

pub data Step : Type 0 where
  -- the sender builds a record in the buffer out
  build : (app random out : List ℕ) → Step
  -- the sender changes its key
  turn : (iv : List ℕ) → Step
  -- the host's cipher seals the record that was built i records ago (0: the last one)
  seal : (i : ℕ) → Step
  -- a call of the receiver
  receive : (c : Call) → Step

-- a record that was built: its key count, number and data, and its associated data and text, read from Build's buffer at exit
pub record Sent : Type 0 where
  pub item : Item
  pub assoc : List ℕ
  pub text : List ℕ

-- both ends, and what was built and what was sealed so far, the newest first
pub record World : Type 0 where
  pub sender : Sender
  pub receiver : Receiver
  pub built : List Sent
  pub sealed : List Sent

unfoldable pub sent_of : Sender → List ℕ → Built → List ℕ → Sent
sent_of s app b out =
    record {
      item = record { count = s.count; number = b.number; app = app };
      assoc = take b.assoc out;
      text = take (b.text - b.assoc) (drop b.assoc out);
    }

-- the one element at i, or none
unfoldable pub at : {A : Type 0} → List A → ℕ → List A
at [] i = []
at (x ∷ xs) zero = x ∷ []
at (x ∷ xs) (suc i) = at xs i

unfoldable pub next : World → Step → World
next w (build app random out) =
    let b = build_of w.sender (length app) (length random) (length out) in
    record {
      sender = b.next;
      receiver = w.receiver;
      built = cond (eqb b.answer 0) (sent_of w.sender app b (build_out w.sender app random out) ∷ []) [] ++ w.built;
      sealed = w.sealed;
    }
next w (turn iv) = record { sender = (change_sender w.sender iv).next; receiver = w.receiver; built = w.built; sealed = w.sealed }
next w (seal i) = record { sender = w.sender; receiver = w.receiver; built = w.built; sealed = at w.built i ++ w.sealed }
next w (receive c) = record { sender = w.sender; receiver = state_after w.receiver c; built = w.built; sealed = w.sealed }

-- both ends are opened: s and iv are the sender's, t and iw the receiver's
abbrev pub start : Setting → List ℕ → Setting → List ℕ → World
start s iv t iw = record { sender = (open_sender s iv).next; receiver = (open_receiver t iw).next; built = []; sealed = [] }

-- P holds of each of the receiver's calls in the run, with the world before it
abbrev pub Each : (World → Call → Type 0) → World → List Step → Type 0
Each P w [] = Unit {0}
Each P w (build app random out ∷ rest) = Each P (next w (build app random out)) rest
Each P w (turn iv ∷ rest) = Each P (next w (turn iv)) rest
Each P w (seal i ∷ rest) = Each P (next w (seal i)) rest
Each P w (receive c ∷ rest) = P w c × Each P (next w (receive c)) rest

-- what a call hands out, and all that a run hands out, by the receiver's setting t
abbrev pub hands_out : Setting → World → Call → List Item
hands_out t w c = handed_by t c (answer_to w.receiver c)

unfoldable pub handed_in : Setting → World → List Step → List Item
handed_in t w [] = []
handed_in t w (build app random out ∷ rest) = handed_in t (next w (build app random out)) rest
handed_in t w (turn iv ∷ rest) = handed_in t (next w (turn iv)) rest
handed_in t w (seal i ∷ rest) = handed_in t (next w (seal i)) rest
handed_in t w (receive c ∷ rest) = hands_out t w c ++ handed_in t (next w (receive c)) rest

-- what a call hands out was sealed before
abbrev pub HandsSealed : Setting → World → Call → Type 0
HandsSealed t w c = (x : Item) → Memᴰ x (hands_out t w c) → Memᴰ x (map (λ (b : Sent). b.item) w.sealed)

-- the receiver's calls of the run
unfoldable pub calls_of : List Step → List Call
calls_of [] = []
calls_of (build app random out ∷ rest) = calls_of rest
calls_of (turn iv ∷ rest) = calls_of rest
calls_of (seal i ∷ rest) = calls_of rest
calls_of (receive c ∷ rest) = c ∷ calls_of rest

-- the sender's calls of the run
unfoldable pub sends_of : List Step → List Sends.Send
sends_of [] = []
sends_of (build app random out ∷ rest) = Sends.build app random out ∷ sends_of rest
sends_of (turn iv ∷ rest) = Sends.turn_key iv ∷ sends_of rest
sends_of (seal i ∷ rest) = sends_of rest
sends_of (receive c ∷ rest) = sends_of rest

-- the world after a run
unfoldable pub world_after : World → List Step → World
world_after w [] = w
world_after w (x ∷ rest) = world_after (next w x) rest

-- ---- the cipher and its user

-- a cipher: its yes or no to a record under a key and a number, and on yes the text that it gives back
pub record Cipher (K : Type 0) : Type 0 where
  pub says : K → ℕ → List ℕ → Bool
  pub text : K → ℕ → List ℕ → List ℕ

-- the associated data of a record, header included
abbrev pub assoc_of : Setting → List ℕ → List ℕ
assoc_of s r = take (assoc_end s r) r

-- the highest key count that either end had: the key counts of the run so far are those up to it
abbrev pub counts_of : World → ℕ
counts_of w = max w.sender.count w.receiver.count

-- an earlier step sealed what our sender built under this key and this number, with these associated bytes and this text
pub record SealedBefore {K : Type 0} (sendKey : ℕ → K) (w : World) (key : K) (number : ℕ) (assoc text : List ℕ) : Type 0 where
  pub sent : Sent
  pub earlier : Memᴰ sent w.sealed
  pub under_key : sendKey sent.item.count ≡ key
  pub under_number : sent.item.number ≡ number
  pub same_assoc : sent.assoc ≡ assoc
  pub same_text : sent.text ≡ text

-- the key of each key count at the sender and at the receiver
module _ {K : Type 0} (C : Cipher K) (sendKey receiveKey : ℕ → K) where
  -- what is assumed of a Settle of the run, with the world that the steps before it left
  pub record Honest (w : World) (r : List ℕ) (count number : ℕ) (passed : Bool) (plain : List ℕ) : Type 0 where
    -- both ends are set alike: they have the same setting, the MAC's length and the layout with it, and the same key for each key count of the run
    pub alike : (w.sender.setting ≡ w.receiver.setting) × ((c : ℕ) → c ≤ counts_of w → sendKey c ≡ receiveKey c)
    -- no key is used again after a change: among the key counts of the run equal keys have equal counts
    pub no_reuse : (a b : ℕ) → a ≤ counts_of w → b ≤ counts_of w → sendKey a ≡ sendKey b → a ≡ b
    -- Settle is given the cipher's own answer for the very record, key and number it is called with, and on yes the cipher's text
    pub own : (passed ≡ C.says (receiveKey count) number r) × (passed ≡ true → plain ≡ C.text (receiveKey count) number r)
    -- the cipher says yes only to what our sender built and sealed under that key and number, header included, and gives back that text
    pub genuine : C.says (receiveKey count) number r ≡ true
        → SealedBefore sendKey w (receiveKey count) number (assoc_of w.receiver.setting r) (C.text (receiveKey count) number r)

  -- it is assumed of the Settles only
  abbrev pub HonestCall : World → Call → Type 0
  HonestCall w (offer r slot) = Unit {0}
  HonestCall w (settle r slot count number passed plain) = Honest w r count number passed plain
  HonestCall w (gaps slot) = Unit {0}
  HonestCall w (change_key iv) = Unit {0}
  HonestCall w drop_old = Unit {0}

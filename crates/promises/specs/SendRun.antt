-- Runs of a sender, and the numbers that they use. A run is over what a call does as a parameter: so a wrong sender can be run, too.
-- Assumes nothing.
use Rattle.std.specs.Prelude.{ℕ, zero, suc, ◌+◌, cond, List, [], ◌∷◌, ◌++◌, eqb, length}
use Rattle.channel.specs.Sender.{build_of, change_sender}
use Rattle.channel.specs.declared.sender.Sender.{Sender}

-- a call of the sender; `failed` is no call: the host's cipher failed on what was built
pub data Send : Type 0 where
  build : (app random out : List ℕ) → Send
  turn_key : (iv : List ℕ) → Send
  failed : Send

-- the answer, its number and the state given back
pub record Sending : Type 0 where
  pub code : ℕ
  pub number : ℕ
  pub next : Sender

unfoldable pub sending : Sender → Send → Sending
sending s (build app random out) =
    let b = build_of s (length app) (length random) (length out) in
    record { code = b.answer; number = b.number; next = b.next }
sending s (turn_key iv) = let t = change_sender s iv in record { code = t.answer; number = 0; next = t.next }
sending s failed = record { code = 0; number = 0; next = s }

module _ (does : Sender → Send → Sending) where
  -- the key count and number of each record that a run builds, in order; k key changes were granted before
  unfoldable pub used_by : ℕ → Sender → List Send → List (ℕ × ℕ)
  used_by k s [] = []
  used_by k s (build app random out ∷ cs) =
      let o = does s (build app random out) in
      cond (eqb o.code 0) ((k, o.number) ∷ []) [] ++ used_by k o.next cs
  used_by k s (turn_key iv ∷ cs) =
      let o = does s (turn_key iv) in
      used_by (cond (eqb o.code 0) (k + 1) k) o.next cs
  used_by k s (failed ∷ cs) = used_by k (does s failed).next cs

  -- the sender after a run
  unfoldable pub sent_by : Sender → List Send → Sender
  sent_by s [] = s
  sent_by s (c ∷ cs) = sent_by (does s c).next cs

  -- how many key changes a run is granted
  unfoldable pub turns_by : Sender → List Send → ℕ
  turns_by s [] = 0
  turns_by s (build app random out ∷ cs) = turns_by (does s (build app random out)).next cs
  turns_by s (turn_key iv ∷ cs) = let o = does s (turn_key iv) in turns_by o.next cs + cond (eqb o.code 0) 1 0
  turns_by s (failed ∷ cs) = turns_by (does s failed).next cs

-- all that a sender's run uses
abbrev pub used : Sender → List Send → List (ℕ × ℕ)
used = used_by sending 0

-- the sender after its run, and the key changes that it was granted
abbrev pub sender_after : Sender → List Send → Sender
sender_after = sent_by sending

abbrev pub turns_in : Sender → List Send → ℕ
turns_in = turns_by sending

-- the numbers used under one key count, in order
unfoldable pub under : ℕ → List (ℕ × ℕ) → List ℕ
under c [] = []
under c (x ∷ l) = cond (eqb x.0 c) (x.1 ∷ under c l) (under c l)

-- how many records a run builds under one key count
abbrev pub builds_under : ℕ → Sender → List Send → ℕ
builds_under c s cs = length (under c (used s cs))

-- n, n + 1, n + 2 and on, k of them
unfoldable pub from : ℕ → ℕ → List ℕ
from n zero = []
from n (suc k) = n ∷ from (n + 1) k

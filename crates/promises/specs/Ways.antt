-- Ways to receive, to send and to build, right or wrong, and what T1, T2, T3 and demand 2 say of any of them.
-- Assumes nothing.
use Rattle.std.specs.Prelude.{ℕ, ◌-◌, ◌≡◌, List, [], ◌∷◌, length}
use Rattle.channel.specs.Call.{Call, offer, Answer, Effect, Outcome}
use Rattle.channel.specs.Receiver.{look, change, open_receiver}
use Rattle.channel.specs.Rules.{outcome}
use Rattle.channel.specs.Sender.{open_sender, build_of, build_out}
use Rattle.channel.specs.View.{View}
use Rattle.channel.specs.declared.receiver.Receiver.{Receiver}
use Rattle.channel.specs.declared.ffi.Built.{Built}
use Rattle.channel.specs.declared.sender.Sender.{Sender}
use Rattle.record.specs.Shape.{mac_len}
use Rattle.record.specs.declared.setting.Setting.{Setting}
use Rattle.promises.specs.Distinct.{Distinct}
use Rattle.promises.specs.Run.{answers_by, all_marked}
use Rattle.promises.specs.Plain.{open_plain, plain_answers}
use Rattle.promises.specs.SendRun.{Send, Sending, used_by, under, from}
use Rattle.promises.specs.Premises.{CanBuild, CanTake}
use Rattle.promises.specs.ReadBack.{sealed_record}

-- P fails of each
abbrev pub Fails : {A : Type 0} → (A → Type 0) → List A → Type 0
Fails P [] = Unit {0}
Fails P (x ∷ xs) = (P x → ⊥) × Fails P xs

-- ---- to receive

-- a look, a table and a change
pub record Receives : Type 0 where
  pub looks : Receiver → View
  pub decides : View → Call → Outcome
  pub changes : Receiver → Effect → Receiver

-- the receiver's own
abbrev pub right_receives : Receives
right_receives = record { looks = look; decides = outcome; changes = change }

-- the answers of a run from open
abbrev pub answers_in : Receives → Setting → List ℕ → List Call → List Answer
answers_in w s iv = answers_by w.looks w.decides w.changes (open_receiver s iv).next

-- T1: over any run from open it answers as the plain receiver
abbrev pub T1 : Receives → Type 0
T1 w = (s : Setting) (iv : List ℕ) (calls : List Call) → answers_in w s iv calls ≡ plain_answers (open_plain s iv) calls

-- T2: over any run from open no number is marked twice under one key count
abbrev pub T2 : Receives → Type 0
T2 w = (s : Setting) (iv : List ℕ) (calls : List Call) → Distinct (all_marked calls (answers_in w s iv calls))

-- ---- to send

-- what a call does to a sender
abbrev pub Sends : Type 0
Sends = Sender → Send → Sending

-- the numbers that a run from open uses under the key count c
abbrev pub used_in : Sends → Setting → List ℕ → List Send → ℕ → List ℕ
used_in does s iv sends c = under c (used_by does 0 (open_sender s iv).next sends)

-- T3: over any run from open they are 0, 1, 2 and on
abbrev pub T3 : Sends → Type 0
T3 does = (s : Setting) (iv : List ℕ) (sends : List Send) (c : ℕ) → used_in does s iv sends c ≡ from 0 (length (used_in does s iv sends c))

-- ---- to build

-- of a sender, the data, the random bytes and the buffer: the answer, and the buffer at exit
abbrev pub Builds : Type 0
Builds = Sender → List ℕ → List ℕ → List ℕ → Built × List ℕ

-- Build's own
abbrev pub right_builds : Builds
right_builds s app random out = (build_of s (length app) (length random) (length out), build_out s app random out)

-- what the table answers to the Offer of the record that was built and sealed
abbrev pub offered_by : (View → Call → Outcome) → Built × List ℕ → List ℕ → List ℕ → Receiver → ℕ → Answer
offered_by decides b sealed mac r slot = (decides (look r) (offer (sealed_record b.0 b.1 sealed mac) slot)).answer

-- demand 2, as far as Offer: it answers 0, and the number that Build answered
abbrev pub Reads : (View → Call → Outcome) → Builds → Type 0
Reads decides builds = (s : Sender) (app random out sealed mac : List ℕ) (r : Receiver) (slot : ℕ)
    → CanBuild s app random out → CanTake r slot s
    → length sealed ≡ (builds s app random out).0.text - (builds s app random out).0.assoc → length mac ≡ mac_len s.setting
    → ((offered_by decides (builds s app random out) sealed mac r slot).code ≡ 0)
    × ((offered_by decides (builds s app random out) sealed mac r slot).number ≡ (builds s app random out).0.number)

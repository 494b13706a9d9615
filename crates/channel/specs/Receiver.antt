-- The receiver with its window: its states, its view, and what its calls answer.
-- Assumes nothing.
use Rattle.std.specs.Prelude.{ℕ, ◌+◌, Bool, true, false, not, cond, ◌&&◌, List, [], ◌∷◌, eqb}
use Rattle.answers.specs.Table.{first, given, any_of}
use Rattle.numbers.specs.Contract.{seen_by, sound_window}
use Rattle.record.specs.declared.setting.Setting.{Setting}
use Rattle.record.specs.Setting.{zero_setting, is_zero_setting, bad_setting, open_rows, rule_of}
use Rattle.record.specs.Nonce.{zeros12}
use Rattle.channel.specs.declared.key.Key.{Key}
use Rattle.channel.specs.declared.receiver.Receiver.{Receiver}
use Rattle.channel.specs.declared.ffi.ReceiverStep.{ReceiverStep}
use Rattle.channel.specs.declared.ffi.Counted.{Counted}
use Rattle.channel.specs.declared.ffi.Offered.{Offered}
use Rattle.channel.specs.declared.ffi.Settled.{Settled}
use Rattle.channel.specs.Key.{new_key, zero_key, is_zero_key, remark}
use Rattle.channel.specs.View.{Face, View}
use Rattle.channel.specs.Call.{Call, offer, settle, gaps, change_key, drop_old, Answer, Effect, stay, marking, turning, dropping}
use Rattle.channel.specs.Rules.{outcome}

-- ---- its states

abbrev pub new_receiver : Setting → List ℕ → Receiver
new_receiver s iv = record { setting = s; count = 0; current = new_key iv; held = false; old = zero_key }

abbrev pub zero_receiver : Receiver
zero_receiver = new_receiver zero_setting zeros12

-- all its fields are zero
unfoldable pub is_zero_receiver : Receiver → Bool
is_zero_receiver r =
    is_zero_setting r.setting && eqb r.count 0 && is_zero_key r.current && not r.held && is_zero_key r.old

-- what State is given for
unfoldable pub bad_receiver : Receiver → Bool
bad_receiver r =
    any_of
    (bad_setting r.setting
    ∷ not (sound_window (rule_of r.setting) r.current.window)
    ∷ not (sound_window (rule_of r.setting) r.old.window)
    ∷ (not r.held && not (is_zero_key r.old))
    ∷ (r.held && eqb r.count 0)
    ∷ [])

-- ---- what the rules may ask of it

-- the key of a slot
abbrev pub key_of : Receiver → ℕ → Key
key_of r slot = cond (eqb slot 0) r.current r.old

abbrev pub face_of : Key → Face
face_of k = record { iv = k.iv; next = k.window.next; seen = seen_by k.window }

unfoldable pub look : Receiver → View
look r =
    record {
      setting = r.setting;
      bad = bad_receiver r;
      count = r.count;
      current = face_of r.current;
      held = r.held;
      old = face_of r.old;
    }

-- ---- what an effect makes of it

unfoldable pub change : Receiver → Effect → Receiver
change r stay = r
change r (marking slot n) =
    record {
      setting = r.setting;
      count = r.count;
      current = cond (eqb slot 0) (remark r.setting r.current n) r.current;
      held = r.held;
      old = cond (eqb slot 0) r.old (remark r.setting r.old n);
    }
change r (turning iv) =
    record { setting = r.setting; count = r.count + 1; current = new_key iv; held = true; old = r.current }
change r dropping =
    record { setting = r.setting; count = r.count; current = r.current; held = false; old = zero_key }

-- ---- the calls

-- the answer, and the state given back
unfoldable pub answer_to : Receiver → Call → Answer
answer_to r c = (outcome (look r) c).answer

unfoldable pub state_after : Receiver → Call → Receiver
state_after r c = change r (outcome (look r) c).effect

abbrev pub open_receiver : Setting → List ℕ → ReceiverStep
open_receiver s iv =
    given (first (open_rows s)) (record { answer = 0; next = new_receiver s iv }) (λ why. record { answer = why; next = zero_receiver })

abbrev pub offered : Answer → Offered
offered a =
    record { answer = a.code; count = a.count; number = a.number; nonce = a.nonce; assoc = a.assoc; text = a.text }

abbrev pub settled : Answer → Receiver → Settled
settled a r = record { answer = a.code; place = a.place; length = a.length; next = r }

abbrev pub counted : Answer → Counted
counted a = record { answer = a.code; gaps = a.gaps }

abbrev pub changed : Answer → Receiver → ReceiverStep
changed a r = record { answer = a.code; next = r }

abbrev pub offer_of : Receiver → List ℕ → ℕ → Offered
offer_of r rec slot = offered (answer_to r (offer rec slot))

abbrev pub settle_of : Receiver → List ℕ → ℕ → ℕ → ℕ → Bool → List ℕ → Settled
settle_of r rec slot count number passed plain =
    settled (answer_to r (settle rec slot count number passed plain)) (state_after r (settle rec slot count number passed plain))

abbrev pub gaps_of : Receiver → ℕ → Counted
gaps_of r slot = counted (answer_to r (gaps slot))

abbrev pub change_receiver : Receiver → List ℕ → ReceiverStep
change_receiver r iv = changed (answer_to r (change_key iv)) (state_after r (change_key iv))

abbrev pub drop_of : Receiver → ReceiverStep
drop_of r = changed (answer_to r drop_old) (state_after r drop_old)

-- The sender: its states, and what its calls answer and write.
-- Assumes nothing.
use Rattle.std.specs.Prelude.{ℕ, ◌+◌, Bool, ◌&&◌, List, [], ◌∷◌, ◌++◌, ltb, eqb, length}
use Rattle.answers.specs.Refusal as Refusal
use Rattle.answers.specs.Table.{Check, first, given, any_of}
use Rattle.octets.specs.Fields.{blank}
use Rattle.octets.specs.Parts.{over}
use Rattle.record.specs.declared.setting.Setting.{Setting}
use Rattle.record.specs.Setting.{zero_setting, is_zero_setting, bad_setting, open_rows}
use Rattle.record.specs.Nonce.{nonce_of, zeros12}
use Rattle.record.specs.Write.{assoc_end_for, text_end_for, total_for, form_rows, room_rows, front_of}
use Rattle.channel.specs.declared.sender.Sender.{Sender}
use Rattle.channel.specs.declared.ffi.SenderStep.{SenderStep}
use Rattle.channel.specs.declared.ffi.Built.{Built}
use Rattle.channel.specs.Key.{last_count}

-- ---- its states

abbrev pub new_sender : Setting → List ℕ → Sender
new_sender s iv = record { setting = s; count = 0; next = 0; iv = iv }

abbrev pub zero_sender : Sender
zero_sender = new_sender zero_setting zeros12

-- all its fields are zero
unfoldable pub is_zero_sender : Sender → Bool
is_zero_sender s = is_zero_setting s.setting && eqb s.count 0 && eqb s.next 0 && blank 12 s.iv

-- what State is given for
unfoldable pub bad_sender : Sender → Bool
bad_sender s = any_of (bad_setting s.setting ∷ ltb s.setting.limit s.next ∷ [])

-- after a record was built
abbrev pub spent : Sender → Sender
spent s = record { setting = s.setting; count = s.count; next = s.next + 1; iv = s.iv }

abbrev pub turn_to : Sender → List ℕ → Sender
turn_to s iv = record { setting = s.setting; count = s.count + 1; next = 0; iv = iv }

-- ---- the tables: p bytes of data, q random bytes, a buffer of `room` bytes

-- 1
unfoldable pub sender_rows : Sender → List Check
sender_rows s = (bad_sender s, Refusal.state) ∷ []

-- 1, 8, 15, 16, 17
unfoldable pub build_rows : Sender → ℕ → ℕ → ℕ → List Check
build_rows s p q room =
    sender_rows s
    ++ ((eqb s.next s.setting.limit, Refusal.spent) ∷ (form_rows s.setting p q ++ room_rows s.setting p q room))

-- 1, 19
unfoldable pub change_rows : Sender → List Check
change_rows s = sender_rows s ++ (eqb s.count last_count, Refusal.epochs) ∷ []

-- ---- the calls

abbrev pub open_sender : Setting → List ℕ → SenderStep
open_sender s iv =
    given (first (open_rows s)) (record { answer = 0; next = new_sender s iv }) (λ why. record { answer = why; next = zero_sender })

abbrev pub no_build : Sender → ℕ → Built
no_build s why = record { answer = why; number = 0; nonce = zeros12; assoc = 0; text = 0; total = 0; next = s }

abbrev pub built : Sender → ℕ → ℕ → Built
built s p q =
    record {
      answer = 0;
      number = s.next;
      nonce = nonce_of s.setting s.iv s.next;
      assoc = assoc_end_for s.setting p q;
      text = text_end_for s.setting p q;
      total = total_for s.setting p q;
      next = spent s;
    }

unfoldable pub build_of : Sender → ℕ → ℕ → ℕ → Built
build_of s p q room = given (first (build_rows s p q room)) (built s p q) (no_build s)

-- the buffer after: all of the record but the MAC at its start; as it was after a refusal
unfoldable pub build_out : Sender → List ℕ → List ℕ → List ℕ → List ℕ
build_out s app random out =
    given (first (build_rows s (length app) (length random) (length out)))
    (over out 0 (front_of s.setting s.next app random))
    (λ why. out)

unfoldable pub change_sender : Sender → List ℕ → SenderStep
change_sender s iv = given (first (change_rows s)) (record { answer = 0; next = turn_to s iv }) (λ why. record { answer = why; next = s })

-- Wrong senders, each with a run and a key count under which the numbers that it uses are not 0, 1, 2 and on.
-- Assumes nothing.
use Rattle.std.specs.Prelude.{ℕ, ◌+◌, ◌-◌, List, [], ◌∷◌, replicate}
use Rattle.promises.specs.SendRun.{Send, build, turn_key, failed, sending}
use Rattle.promises.specs.Ways.{Sends}
use Rattle.promises.specs.WrongReceivers.{iv}

-- it gives a built number back where the host's cipher fails
unfoldable pub gives_back : Sends
gives_back s failed = record { code = 0; number = 0; next = record { setting = s.setting; count = s.count; next = s.next - 1; iv = s.iv } }
gives_back s (build app random out) = sending s (build app random out)
gives_back s (turn_key iv) = sending s (turn_key iv)

-- it goes on counting after a key change
unfoldable pub goes_on : Sends
goes_on s (turn_key iv) = record { code = 0; number = 0; next = record { setting = s.setting; count = s.count + 1; next = s.next; iv = iv } }
goes_on s (build app random out) = sending s (build app random out)
goes_on s failed = sending s failed

-- its number is made up
unfoldable pub made_up_number : Sends
made_up_number s (build app random out) = record { code = 0; number = 5; next = (sending s (build app random out)).next }
made_up_number s (turn_key iv) = sending s (turn_key iv)
made_up_number s failed = sending s failed

-- a Build of one byte
abbrev pub one : Send
one = build (1 ∷ []) [] (replicate 40 0)

-- each with its run and key count
abbrev pub wrong_senders : List (Sends × List Send × ℕ)
wrong_senders =
    (gives_back, one ∷ failed ∷ one ∷ [], 0)
    ∷ (goes_on, one ∷ turn_key iv ∷ one ∷ [], 1)
    ∷ (made_up_number, one ∷ [], 0)
    ∷ []

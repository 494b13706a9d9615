-- An MCTP message: the byte 0x06, then the record.
-- Assumes nothing.
use Rattle.std.specs.Prelude.{ℕ, ◌||◌, List, [], ◌∷◌, eqb, length}
use Rattle.answers.specs.Refusal as Refusal
use Rattle.answers.specs.Table.{Check, first, differ}
use Rattle.mctp.specs.declared.ffi.Wrote.{Wrote}
use Rattle.mctp.specs.Kind as Kind
use Rattle.mctp.specs.Led.{room_rows, writes, lead, behind}

abbrev pub message_of : List ℕ → List ℕ
message_of rec = Kind.secured ∷ rec

abbrev pub wrap_record : List ℕ → List ℕ → Wrote × List ℕ
wrap_record rec out = writes (room_rows (message_of rec) out) (message_of rec) out

-- the message is empty, or its first byte is not 0x06
unfoldable pub frame_rows : List ℕ → List Check
frame_rows message = (eqb (length message) 0 || differ (lead message) Kind.secured, Refusal.frame) ∷ []

abbrev pub read_message : List ℕ → ℕ
read_message message = first (frame_rows message)

abbrev pub record_of : List ℕ → List ℕ
record_of message = behind (read_message message) message

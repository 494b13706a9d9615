-- What is promised of the four calls.
-- Assumes nothing.
use Rattle.std.specs.Prelude.{ℕ, ◌+◌, ◌≤◌, Bool, List, [], ◌∷◌, ◌≡◌, length, take, drop}
use Rattle.answers.specs.Refusal as Refusal
use Rattle.mctp.specs.declared.ffi.Wrote.{Wrote}
use Rattle.mctp.specs.Led.{none_wrote}
use Rattle.mctp.specs.Application.{no_data, read_data, body_of}
use Rattle.mctp.specs.Message.{read_message, record_of}

-- a writer's answer and buffer at exit, where the buffer was `out`: nothing past what it wrote is touched, and a refusal has
-- the length 0 and leaves the buffer as it was
pub record Careful (out : List ℕ) (w : Wrote × List ℕ) : Type 0 where
  pub past : drop w.0.length w.1 ≡ drop w.0.length out
  pub refused : (w.0.answer ≡ 0 → ⊥) → w ≡ (none_wrote w.0.answer, out)
  pub within : w.0.answer ≤ Refusal.largest

-- the bytes that a writer wrote
abbrev pub written : Wrote × List ℕ → List ℕ
written w = take w.0.length w.1

-- a writer of application data is done, and reading what it wrote gives back bit, type and body
pub record DataBack (integrity : Bool) (kind : ℕ) (body : List ℕ) (w : Wrote × List ℕ) : Type 0 where
  pub wrote : w.0 ≡ record { answer = 0; length = 1 + length body }
  pub read : read_data (written w) ≡ record { answer = 0; integrity = integrity; kind = kind }
  pub rest : body_of (written w) ≡ body

-- a writer of a message is done, and reading what it wrote gives back the record
pub record RecordBack (rec : List ℕ) (w : Wrote × List ℕ) : Type 0 where
  pub wrote : w.0 ≡ record { answer = 0; length = 1 + length rec }
  pub read : read_message (written w) ≡ 0
  pub rest : record_of (written w) ≡ rec

-- a refusal to read application data answers zeros in all other fields and hands out nothing; else all behind the first byte is
-- handed out
pub record DataShown (app : List ℕ) : Type 0 where
  pub refused : ((read_data app).answer ≡ 0 → ⊥) → (read_data app ≡ no_data (read_data app).answer) × (body_of app ≡ [])
  pub shown : (read_data app).answer ≡ 0 → body_of app ≡ drop 1 app
  pub within : (read_data app).answer ≤ Refusal.largest

-- a refusal to read a message hands out nothing; else all behind the first byte is handed out
pub record RecordShown (message : List ℕ) : Type 0 where
  pub refused : (read_message message ≡ 0 → ⊥) → record_of message ≡ []
  pub shown : read_message message ≡ 0 → record_of message ≡ drop 1 message
  pub within : read_message message ≤ Refusal.largest

-- page 01's lines: a first byte, and what the reader answers to it
abbrev pub data_lines : List (ℕ × ℕ)
data_lines = (0x05, 0) ∷ (0x85, 0) ∷ (0x06, Refusal.wrapped) ∷ (0x86, Refusal.wrapped) ∷ []

abbrev pub message_lines : List (ℕ × ℕ)
message_lines = (0x06, 0) ∷ (0x86, Refusal.frame) ∷ []

-- a reader answers to each line what it says, whatever stands behind the byte
abbrev pub Along : (List ℕ → ℕ) → List ℕ → List (ℕ × ℕ) → Type 0
Along answer rest [] = Unit {0}
Along answer rest (l ∷ ls) = (answer (l.0 ∷ rest) ≡ l.1) × Along answer rest ls

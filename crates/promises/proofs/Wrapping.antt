-- A refused call of the wrapping: a writer answers its number and no length and leaves the buffer as it was; a reader answers its number, no
-- bit, no type and an empty part. What they read is lent to be read only, and they have no state.
-- Assumes nothing.
use Prim.Native.Nat.{ℕ, ◌≤◌}
use mathlib.Core.Path.{◌≡◌}
use mathlib.Core.Logic.{◌≢◌}
use mathlib.Core.Bool.{Bool, false}
use mathlib.Core.List.{List, []}
use Rattle.answers.specs.Refusal as Refusal
use Rattle.mctp.proofs.Readers.{data_shown, record_shown}
use Rattle.mctp.proofs.Writers.{wrap_data_careful, wrap_record_careful}
use Rattle.mctp.specs.Application.{wrap_data, read_data, body_of}
use Rattle.mctp.specs.Message.{wrap_record, read_message, record_of}

-- the writer of application data
pub refused_wrap_data : (integrity : Bool) (kind : ℕ) (body out : List ℕ) → (wrap_data integrity kind body out).0.answer ≢ 0
    → wrap_data integrity kind body out ≡ (record { answer = (wrap_data integrity kind body out).0.answer; length = 0 }, out)
refused_wrap_data integrity kind body out = (wrap_data_careful integrity kind body out).refused

-- the writer of a message
pub refused_wrap_record : (rec out : List ℕ) → (wrap_record rec out).0.answer ≢ 0
    → wrap_record rec out ≡ (record { answer = (wrap_record rec out).0.answer; length = 0 }, out)
refused_wrap_record rec out = (wrap_record_careful rec out).refused

-- the reader of application data
pub refused_data : (app : List ℕ) → (read_data app).answer ≢ 0
    → (read_data app ≡ record { answer = (read_data app).answer; integrity = false; kind = 0 }) × (body_of app ≡ [])
refused_data app = (data_shown app).refused

-- the reader of a message
pub refused_message : (message : List ℕ) → read_message message ≢ 0 → record_of message ≡ []
refused_message message = (record_shown message).refused

-- every answer of the writer of application data is 0 or a number of the list
pub wrap_data_within : (integrity : Bool) (kind : ℕ) (body out : List ℕ) → (wrap_data integrity kind body out).0.answer ≤ Refusal.largest
wrap_data_within integrity kind body out = (wrap_data_careful integrity kind body out).within

-- of the writer of a message too
pub wrap_record_within : (rec out : List ℕ) → (wrap_record rec out).0.answer ≤ Refusal.largest
wrap_record_within rec out = (wrap_record_careful rec out).within

-- and of the two readers
pub read_within : (bytes : List ℕ) → ((read_data bytes).answer ≤ Refusal.largest) × (read_message bytes ≤ Refusal.largest)
read_within bytes = ((data_shown bytes).within, (record_shown bytes).within)

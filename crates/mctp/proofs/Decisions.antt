-- Each of the four calls answers k exactly where k's reason of page 01 holds and none before it does, and 0 exactly where none holds.
-- Assumes nothing.
use Prim.Native.Nat.{ℕ, ◌+◌, ◌<◌}
use mathlib.Core.Bool.{Bool}
use mathlib.Core.List.{List, [], ◌∷◌}
use mathlib.Core.Path.{◌≡◌, refl, ap}
use native.Mathlib.Omega.{arith}
use lib.Dec.{eqb, ltb}
use lib.ListN.{length, drop_of_length-le}
use Rattle.answers.specs.Reasons.{Decided, Tells}
use Rattle.answers.proofs.Reasons.{told_row, decided}
use Rattle.answers.proofs.Tests.{tells_lt, tells_eq, tells_or, tells_differ}
use Rattle.mctp.specs.Kind as Kind
use Rattle.mctp.specs.Kind.{byte_of, kind_of}
use Rattle.mctp.specs.Led.{room_rows, lead}
use Rattle.mctp.specs.Application.{wrap_rows, wrap_data, unwrap_rows, read_data}
use Rattle.mctp.specs.Message.{message_of, wrap_record, frame_rows, read_message}
use Rattle.mctp.specs.Reasons.{wrap_data_reasons, read_data_reasons, wrap_record_reasons, read_message_reasons}
use Rattle.mctp.proofs.Writers.{writes_answer}
use Rattle.mctp.proofs.Readers.{read_answer}

tells_empty : (xs : List ℕ) → Tells (eqb (length xs) 0) (xs ≡ [])
tells_empty xs =
    let t = tells_eq (length xs) 0 in
    record { holds = λ e. let h = t.holds e in drop_of_length-le xs {i = 0} (omega arith); fails = λ e p. t.fails e (ap length p) }

tells_room : (byte : ℕ) (rest out : List ℕ) → Tells (ltb (length out) (length (byte ∷ rest))) (length out < 1 + length rest)
tells_room byte rest out =
    let t = tells_lt (length out) (length (byte ∷ rest)) in
    record { holds = λ e. let h = t.holds e in omega arith; fails = λ e p. t.fails e (omega arith) }

-- writing application data
pub wrap_data_decided : (integrity : Bool) (kind : ℕ) (body out : List ℕ)
    → Decided (wrap_data integrity kind body out).0.answer (wrap_data_reasons kind body out)
unfolding wrap_rows room_rows
wrap_data_decided integrity kind body out =
    decided (wrap_rows integrity kind body out) (wrap_data_reasons kind body out)
    (told_row (tells_or (tells_eq kind Kind.barred) (tells_lt Kind.largest kind)), (told_row (tells_room (byte_of integrity kind) body out), tt))
    _ (writes_answer (wrap_rows integrity kind body out) _ out)

-- reading application data
pub read_data_decided : (app : List ℕ) → Decided (read_data app).answer (read_data_reasons app)
unfolding unwrap_rows
read_data_decided app =
    decided (unwrap_rows app) (read_data_reasons app)
    (told_row (tells_or (tells_empty app) (tells_eq (kind_of (lead app)) Kind.barred)), tt) _ (read_answer app)

-- writing a message
pub wrap_record_decided : (rec out : List ℕ) → Decided (wrap_record rec out).0.answer (wrap_record_reasons rec out)
unfolding room_rows
wrap_record_decided rec out =
    decided (room_rows (message_of rec) out) (wrap_record_reasons rec out) (told_row (tells_room Kind.secured rec out), tt) _
    (writes_answer (room_rows (message_of rec) out) (message_of rec) out)

-- reading a message
pub read_message_decided : (message : List ℕ) → Decided (read_message message) (read_message_reasons message)
unfolding frame_rows
read_message_decided message =
    decided (frame_rows message) (read_message_reasons message)
    (told_row (tells_or (tells_empty message) (tells_differ (lead message) Kind.secured)), tt) _ refl

-- Of each public function: two answers that its contract allows are equal, and so are two buffers at exit.
-- Assumes nothing.
use Prim.Native.Nat.{ℕ}
use mathlib.Core.List.{List}
use mathlib.Core.Path.{◌≡◌, ap}
use Rattle.std.specs.Prelude.{Result}
use Rattle.answers.specs.declared.refusal.Refusal.{Refusal}
use Rattle.answers.proofs.Answer.{answer_once, code_once}
use Rattle.answers.proofs.OneAnswer.{OneAnswer, one}
use Rattle.mctp.specs.declared.application.Header.{Header}
use Rattle.mctp.specs.declared.ffi.Data.{Data}
use Rattle.mctp.specs.declared.ffi.Wrote.{Wrote}
use Rattle.mctp.specs.Led.{as_wrote}
use Rattle.mctp.specs.Application.{no_header, as_data}
use Rattle.mctp.proofs.application.wrap_data.Reads as wrap-data
use Rattle.mctp.proofs.application.read_data.Reads as read-data
use Rattle.mctp.proofs.application.body_of.Reads as body_of
use Rattle.mctp.proofs.message.wrap_record.Reads as wrap-record
use Rattle.mctp.proofs.message.read_message.Reads as read-message
use Rattle.mctp.proofs.message.record_of.Reads as record_of
use Rattle.mctp.proofs.ffi.WroteFromResultU64Refusal.from.Reads as wrote-from
use Rattle.mctp.proofs.ffi.DataFromResultHeaderRefusal.from.Reads as data-from

-- ---- two results that are the same numbers are one

wrote_once : (x y : Result ℕ Refusal) → as_wrote x ≡ as_wrote y → x ≡ y
wrote_once x y e = answer_once 0 x y (ap (λ (w : Wrote). w.answer) e) (ap (λ (w : Wrote). w.length) e)

data_once : (x y : Result Header Refusal) → as_data x ≡ as_data y → x ≡ y
data_once x y e =
    answer_once no_header x y (ap (λ (d : Data). d.answer) e)
    (ap (λ (d : Data). record { integrity = d.integrity; kind = d.kind }) e)

-- ---- the calls

-- the answer and the buffer
pub wrap_data_one : OneAnswer {B = Result ℕ Refusal × List ℕ} wrap-data.Post (λ κs x s. (x, s.1.1.1.0.now))
wrap_data_one κs a x y s t p q i = (wrote_once x y (λ j. (one p q j).0) i, (one p q i).1)

-- the answer
pub read_data_one : OneAnswer read-data.Post (λ κs x s. x)
read_data_one κs a x y s t p q = data_once x y (one p q)

-- the part of the caller's slice
pub body_of_one : OneAnswer body_of.Post (λ κs x s. x.now)
body_of_one κs a x y s t p q = one p q

-- the answer and the buffer
pub wrap_record_one : OneAnswer {B = Result ℕ Refusal × List ℕ} wrap-record.Post (λ κs x s. (x, s.1.0.now))
wrap_record_one κs a x y s t p q i = (wrote_once x y (λ j. (one p q j).0) i, (one p q i).1)

-- the answer
pub read_message_one : OneAnswer read-message.Post (λ κs x s. x)
read_message_one κs a x y s t p q = code_once x y (one p q)

-- the part of the caller's slice
pub record_of_one : OneAnswer record_of.Post (λ κs x s. x.now)
record_of_one κs a x y s t p q = one p q

-- ---- what C is told

pub wrote_from_one : OneAnswer wrote-from.Post (λ κs x s. x)
wrote_from_one κs a x y s t p q = one p q

pub data_from_one : OneAnswer data-from.Post (λ κs x s. x)
data_from_one κs a x y s t p q = one p q

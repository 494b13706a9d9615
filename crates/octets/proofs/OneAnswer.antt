-- Two answers that a contract of this crate allows are one.
-- Assumes nothing.
use Rattle.answers.proofs.OneAnswer.{OneAnswer, one}
use Rattle.octets.proofs.fields.little16.Reads as little16
use Rattle.octets.proofs.fields.little32.Reads as little32
use Rattle.octets.proofs.fields.word_of.Reads as word_of
use Rattle.octets.proofs.fields.bytes_of.Reads as bytes_of
use Rattle.octets.proofs.fields.blank12.Reads as blank12
use Rattle.octets.proofs.parts.part.Reads as part
use Rattle.octets.proofs.parts.put.Reads as put
use Rattle.octets.proofs.parts.put_little16.Reads as put-little16
use Rattle.octets.proofs.parts.put_little32.Reads as put-little32

pub little16_one : OneAnswer little16.Post (λ κs x s. x)
little16_one κs a x y s t p q = one p q

pub little32_one : OneAnswer little32.Post (λ κs x s. x)
little32_one κs a x y s t p q = one p q

pub word_of_one : OneAnswer word_of.Post (λ κs x s. x)
word_of_one κs a x y s t p q = one p q

pub bytes_of_one : OneAnswer bytes_of.Post (λ κs x s. x)
bytes_of_one κs a x y s t p q = one p q

pub blank12_one : OneAnswer blank12.Post (λ κs x s. x)
blank12_one κs a x y s t p q = one p q

pub part_one : OneAnswer part.Post (λ κs x s. x.now)
part_one κs a x y s t p q = one p q

-- the buffer at exit, here and below
pub put_one : OneAnswer put.Post (λ κs x s. s.0.now)
put_one κs a x y s t p q = one p q

pub put_little16_one : OneAnswer put-little16.Post (λ κs x s. s.0.now)
put_little16_one κs a x y s t p q = one p q

pub put_little32_one : OneAnswer put-little32.Post (λ κs x s. s.0.now)
put_little32_one κs a x y s t p q = one p q

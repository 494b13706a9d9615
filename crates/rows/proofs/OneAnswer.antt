-- Of each public function: two answers that its contract allows are equal.
-- Assumes nothing.
use Rattle.answers.proofs.OneAnswer.{OneAnswer, one}
use Rattle.rows.proofs.row.Row.receiver.Reads as receiver
use Rattle.rows.proofs.row.Row.sender.Reads as sender
use Rattle.rows.proofs.row.Row.with_receiver.Reads as with-receiver
use Rattle.rows.proofs.row.Row.with_sender.Reads as with-sender
use Rattle.rows.proofs.row.Row.is_free.Reads as is_free

pub receiver_one : OneAnswer receiver.Post (λ κs x s. x)
receiver_one κs a x y s t p q = one p q

pub sender_one : OneAnswer sender.Post (λ κs x s. x)
sender_one κs a x y s t p q = one p q

-- a row is its words, here and below
pub with_receiver_one : OneAnswer with-receiver.Post (λ κs x s. x)
with_receiver_one κs a x y s t p q i = record { words = one p.0 q.0 i }

pub with_sender_one : OneAnswer with-sender.Post (λ κs x s. x)
with_sender_one κs a x y s t p q i = record { words = one p.0 q.0 i }

pub is_free_one : OneAnswer is_free.Post (λ κs x s. x)
is_free_one κs a x y s t p q = one p q

-- Of each public function: two answers that its contract allows are equal, and so are two tables and two buffers at exit.
-- Assumes nothing.
use Prim.Native.Nat.{ℕ}
use mathlib.Core.List.{List}
use mathlib.Core.Path.{◌≡◌, ap}
use Rattle.std.specs.Prelude.{Result}
use Rattle.answers.specs.declared.refusal.Refusal.{Refusal}
use Rattle.answers.proofs.Answer.{answer_once, code_once}
use Rattle.answers.proofs.OneAnswer.{OneAnswer, one}
use Rattle.channel.specs.declared.delivery.Span.{Span}
use Rattle.channel.specs.declared.sender.Draft.{Draft}
use Rattle.channel.proofs.OneAnswer.{counted_once, offered_once}
use Rattle.controller.specs.declared.ffi.Taken.{Taken}
use Rattle.controller.specs.declared.ffi.Sent.{Sent}
use Rattle.controller.specs.Answers.{as_opened, as_taken, as_sent}
use Rattle.controller.proofs.ffi.OpenedFromResultU8Refusal.from.Reads as opened
use Rattle.controller.proofs.ffi.TakenFromResultSpanRefusal.from.Reads as taken
use Rattle.controller.proofs.ffi.SentFromResultDraftRefusal.from.Reads as sent
use Rattle.controller.proofs.opening.open.Reads as open_row
use Rattle.controller.proofs.opening.close.Reads as close_row
use Rattle.controller.proofs.receiving.offer.Reads as offer
use Rattle.controller.proofs.receiving.settle.Reads as settle
use Rattle.controller.proofs.receiving.gaps.Reads as gaps
use Rattle.controller.proofs.receiving.change_receiver.Reads as change-receiver
use Rattle.controller.proofs.receiving.drop.Reads as drop
use Rattle.controller.proofs.sending.build.Reads as build
use Rattle.controller.proofs.sending.change_sender.Reads as change-sender

-- ---- results of which C is told the same are one

opened_once : (x y : Result ℕ Refusal) → as_opened x ≡ as_opened y → x ≡ y
opened_once x y e = answer_once _ x y (λ i. (e i).0) (λ i. (e i).1)

taken_once : (x y : Result Span Refusal) → as_taken x ≡ as_taken y → x ≡ y
taken_once x y e = answer_once _ x y (ap (λ (t : Taken). t.answer) e) (ap (λ (t : Taken). record { place = t.place; length = t.length }) e)

sent_once : (x y : Result Draft Refusal) → as_sent x ≡ as_sent y → x ≡ y
sent_once x y e =
    answer_once _ x y (ap (λ (s : Sent). s.answer) e)
    (ap (λ (s : Sent). record { number = s.number; nonce = s.nonce; form = record { assoc = s.assoc; text = s.text; total = s.total } }) e)

-- ---- the calls

pub open_one : OneAnswer {B = Result ℕ Refusal} open_row.Post (λ κs x s. x)
open_one κs a x y s t p q = opened_once x y (one p.0 q.0)

pub open_table_one : OneAnswer {B = List (List ℕ)} open_row.Post (λ κs x s. s.0.now)
open_table_one κs a x y s t p q = one p.1 q.1

pub close_one : OneAnswer close_row.Post (λ κs x s. x)
close_one κs a x y s t p q = code_once x y (one p.0 q.0)

pub close_table_one : OneAnswer {B = List (List ℕ)} close_row.Post (λ κs x s. s.0.now)
close_table_one κs a x y s t p q = one p.1 q.1

pub offer_one : OneAnswer offer.Post (λ κs x s. x)
offer_one κs a x y s t p q = offered_once x y (one p q)

pub settle_one : OneAnswer settle.Post (λ κs x s. x)
settle_one κs a x y s t p q = taken_once x y (one p.0 q.0)

pub settle_table_one : OneAnswer {B = List (List ℕ)} settle.Post (λ κs x s. s.0.now)
settle_table_one κs a x y s t p q = one p.1 q.1

pub gaps_one : OneAnswer gaps.Post (λ κs x s. x)
gaps_one κs a x y s t p q = counted_once x y (one p q)

pub change_receiver_one : OneAnswer change-receiver.Post (λ κs x s. x)
change_receiver_one κs a x y s t p q = code_once x y (one p.0 q.0)

pub change_receiver_table_one : OneAnswer {B = List (List ℕ)} change-receiver.Post (λ κs x s. s.0.now)
change_receiver_table_one κs a x y s t p q = one p.1 q.1

pub drop_one : OneAnswer drop.Post (λ κs x s. x)
drop_one κs a x y s t p q = code_once x y (one p.0 q.0)

pub drop_table_one : OneAnswer {B = List (List ℕ)} drop.Post (λ κs x s. s.0.now)
drop_table_one κs a x y s t p q = one p.1 q.1

pub build_one : OneAnswer build.Post (λ κs x s. x)
build_one κs a x y s t p q = sent_once x y (one p.0 q.0)

pub build_buffer_one : OneAnswer {B = List ℕ} build.Post (λ κs x s. s.1.1.1.1.0.now)
build_buffer_one κs a x y s t p q = one p.1 q.1

pub build_table_one : OneAnswer {B = List (List ℕ)} build.Post (λ κs x s. s.0.now)
build_table_one κs a x y s t p q = one p.2 q.2

pub change_sender_one : OneAnswer change-sender.Post (λ κs x s. x)
change_sender_one κs a x y s t p q = code_once x y (one p.0 q.0)

pub change_sender_table_one : OneAnswer {B = List (List ℕ)} change-sender.Post (λ κs x s. s.0.now)
change_sender_table_one κs a x y s t p q = one p.1 q.1

-- ---- what C is told

pub opened_from_one : OneAnswer opened.Post (λ κs x s. x)
opened_from_one κs a x y s t p q = one p q

pub taken_from_one : OneAnswer taken.Post (λ κs x s. x)
taken_from_one κs a x y s t p q = one p q

pub sent_from_one : OneAnswer sent.Post (λ κs x s. x)
sent_from_one κs a x y s t p q = one p q

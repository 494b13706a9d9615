-- Of each public function: two answers that its contract allows are equal, and so are two buffers at exit.
-- Assumes nothing.
use Prim.Native.Nat.{ℕ}
use mathlib.Core.List.{List}
use mathlib.Core.Path.{◌≡◌, ap}
use Rattle.std.specs.Prelude.{Result}
use Rattle.answers.specs.declared.refusal.Refusal.{Refusal}
use Rattle.answers.proofs.Answer.{answer_once}
use Rattle.answers.proofs.OneAnswer.{OneAnswer, one}
use Rattle.channel.specs.declared.receiver.Receiver.{Receiver}
use Rattle.channel.specs.declared.sender.Sender.{Sender}
use Rattle.channel.specs.declared.sender.Draft.{Draft}
use Rattle.channel.specs.declared.delivery.Offer.{Offer}
use Rattle.channel.specs.declared.delivery.Span.{Span}
use Rattle.channel.specs.declared.ffi.Counted.{Counted}
use Rattle.channel.specs.declared.ffi.Offered.{Offered}
use Rattle.channel.specs.declared.ffi.Settled.{Settled}
use Rattle.channel.specs.declared.ffi.ReceiverStep.{ReceiverStep}
use Rattle.channel.specs.declared.ffi.SenderStep.{SenderStep}
use Rattle.channel.specs.declared.ffi.Built.{Built}
use Rattle.channel.specs.Told.{as_counted, as_offered, as_settled, receiver_step, sender_step, as_built}
use Rattle.channel.proofs.sender.Sender.open.Reads as open-sender
use Rattle.channel.proofs.sender.Sender.build.Reads as build
use Rattle.channel.proofs.sender.Sender.change_key.Reads as change-sender
use Rattle.channel.proofs.receiver.Receiver.open.Reads as open-receiver
use Rattle.channel.proofs.receiver.Receiver.gaps.Reads as gaps
use Rattle.channel.proofs.receiver.Receiver.offer.Reads as offer
use Rattle.channel.proofs.receiver.Receiver.settle.Reads as settle
use Rattle.channel.proofs.receiver.Receiver.change_key.Reads as change-receiver
use Rattle.channel.proofs.receiver.Receiver.drop.Reads as drop
use Rattle.channel.proofs.receiver.Receiver.zeros.Reads as zero-receiver
use Rattle.channel.proofs.sender.Sender.zeros.Reads as zero-sender
use Rattle.channel.proofs.delivery.Span.none.Reads as no-span
use Rattle.channel.proofs.sender.Draft.none.Reads as no-draft
use Rattle.channel.proofs.ffi.ReceiverStep.after.Reads as receiver-step
use Rattle.channel.proofs.ffi.SenderStep.after.Reads as sender-step
use Rattle.channel.proofs.ffi.Built.after.Reads as built
use Rattle.channel.proofs.ffi.CountedFromResultU32Refusal.from.Reads as counted
use Rattle.channel.proofs.ffi.OfferedFromResultOfferRefusal.from.Reads as offered
use Rattle.channel.proofs.ffi.SettledFromTuple2ResultSpanRefusalReceiver.from.Reads as settled

-- ---- results of which C is told the same are one

pub counted_once : (x y : Result ℕ Refusal) → as_counted x ≡ as_counted y → x ≡ y
counted_once x y e = answer_once _ x y (ap (λ (c : Counted). c.answer) e) (ap (λ (c : Counted). c.gaps) e)

pub offered_once : (x y : Result Offer Refusal) → as_offered x ≡ as_offered y → x ≡ y
offered_once x y e =
    answer_once _ x y (ap (λ (o : Offered). o.answer) e)
    (ap (λ (o : Offered). record { count = o.count; number = o.number; nonce = o.nonce; assoc = o.assoc; text = o.text }) e)

pub settled_once : (x y : Result Span Refusal × Receiver) → as_settled x ≡ as_settled y → x ≡ y
settled_once x y e i = (
  answer_once _ x.0 y.0 (ap (λ (s : Settled). s.answer) e) (ap (λ (s : Settled). record { place = s.place; length = s.length }) e) i,
  (e i).next,
)

pub receiver_once : (r : Receiver) (x y : Result Receiver Refusal) → receiver_step r x ≡ receiver_step r y → x ≡ y
receiver_once r x y e = answer_once r x y (ap (λ (s : ReceiverStep). s.answer) e) (ap (λ (s : ReceiverStep). s.next) e)

pub sender_once : (s : Sender) (x y : Result Sender Refusal) → sender_step s x ≡ sender_step s y → x ≡ y
sender_once s x y e = answer_once s x y (ap (λ (t : SenderStep). t.answer) e) (ap (λ (t : SenderStep). t.next) e)

pub built_once : (s : Sender) (x y : Result (Draft × Sender) Refusal) → as_built s x ≡ as_built s y → x ≡ y
built_once s x y e =
    answer_once _ x y (ap (λ (b : Built). b.answer) e)
    (ap
    (λ (b : Built). (record { number = b.number; nonce = b.nonce; form = record { assoc = b.assoc; text = b.text; total = b.total } }, b.next))
    e)

-- ---- the calls

pub open_sender_one : OneAnswer open-sender.Post (λ κs x s. x)
open_sender_one κs a x y s t p q = sender_once _ x y (one p q)

pub build_one : OneAnswer build.Post (λ κs x s. x)
build_one κs a x y s t p q = built_once _ x y (one p.0 q.0)

-- and its buffer
pub build_buffer_one : OneAnswer {B = List ℕ} build.Post (λ κs x s. s.1.1.1.0.now)
build_buffer_one κs a x y s t p q = one p.1 q.1

pub change_sender_one : OneAnswer change-sender.Post (λ κs x s. x)
change_sender_one κs a x y s t p q = sender_once _ x y (one p q)

pub open_receiver_one : OneAnswer open-receiver.Post (λ κs x s. x)
open_receiver_one κs a x y s t p q = receiver_once _ x y (one p q)

pub gaps_one : OneAnswer gaps.Post (λ κs x s. x)
gaps_one κs a x y s t p q = counted_once x y (one p q)

pub offer_one : OneAnswer offer.Post (λ κs x s. x)
offer_one κs a x y s t p q = offered_once x y (one p q)

pub settle_one : OneAnswer settle.Post (λ κs x s. x)
settle_one κs a x y s t p q = settled_once x y (one p q)

pub change_receiver_one : OneAnswer change-receiver.Post (λ κs x s. x)
change_receiver_one κs a x y s t p q = receiver_once _ x y (one p q)

pub drop_one : OneAnswer drop.Post (λ κs x s. x)
drop_one κs a x y s t p q = receiver_once _ x y (one p q)

pub zero_receiver_one : OneAnswer zero-receiver.Post (λ κs x s. x)
zero_receiver_one κs a x y s t p q = one p q

pub zero_sender_one : OneAnswer zero-sender.Post (λ κs x s. x)
zero_sender_one κs a x y s t p q = one p q

pub no_span_one : OneAnswer no-span.Post (λ κs x s. x)
no_span_one κs a x y s t p q = one p q

pub no_draft_one : OneAnswer no-draft.Post (λ κs x s. x)
no_draft_one κs a x y s t p q = one p q

-- ---- what C is told

pub receiver_step_one : OneAnswer receiver-step.Post (λ κs x s. x)
receiver_step_one κs a x y s t p q = one p q

pub sender_step_one : OneAnswer sender-step.Post (λ κs x s. x)
sender_step_one κs a x y s t p q = one p q

pub built_from_one : OneAnswer built.Post (λ κs x s. x)
built_from_one κs a x y s t p q = one p q

pub counted_from_one : OneAnswer counted.Post (λ κs x s. x)
counted_from_one κs a x y s t p q = one p q

pub offered_from_one : OneAnswer offered.Post (λ κs x s. x)
offered_from_one κs a x y s t p q = one p q

pub settled_from_one : OneAnswer settled.Post (λ κs x s. x)
settled_from_one κs a x y s t p q = one p q

-- What C is told of an answer: the number of its refusal, or 0, and beside it what is handed out, or zeros and the state as it was.
-- Assumes nothing.
use Rattle.std.specs.Prelude.{ℕ, Result}
use Rattle.answers.specs.Answer.{code_of, or_none}
use Rattle.answers.specs.declared.refusal.Refusal.{Refusal}
use Rattle.record.specs.Nonce.{zeros12}
use Rattle.channel.specs.Call.{Call, settle}
use Rattle.channel.specs.declared.receiver.Receiver.{Receiver}
use Rattle.channel.specs.declared.sender.Sender.{Sender}
use Rattle.channel.specs.declared.sender.Draft.{Draft}
use Rattle.channel.specs.declared.delivery.Offer.{Offer}
use Rattle.channel.specs.declared.delivery.Span.{Span}
use Rattle.channel.specs.declared.delivery.Verdict.{Verdict}
use Rattle.channel.specs.declared.ffi.Counted.{Counted}
use Rattle.channel.specs.declared.ffi.Offered.{Offered}
use Rattle.channel.specs.declared.ffi.Settled.{Settled}
use Rattle.channel.specs.declared.ffi.ReceiverStep.{ReceiverStep}
use Rattle.channel.specs.declared.ffi.SenderStep.{SenderStep}
use Rattle.channel.specs.declared.ffi.Built.{Built}

abbrev pub as_counted : Result ℕ Refusal → Counted
as_counted r = record { answer = code_of r; gaps = or_none 0 r }

abbrev pub no_offer : Offer
no_offer = record { count = 0; number = 0; nonce = zeros12; assoc = 0; text = 0 }

abbrev pub as_offered : Result Offer Refusal → Offered
as_offered r =
    let o : Offer = or_none no_offer r in
    record { answer = code_of r; count = o.count; number = o.number; nonce = o.nonce; assoc = o.assoc; text = o.text }

-- the call of a Settle
abbrev pub settle_call : Verdict → Call
settle_call v = settle v.rec.now v.slot v.count v.number v.passed v.plain.now

abbrev pub no_data : Span
no_data = record { place = 0; length = 0 }

-- and the state after it
abbrev pub as_settled : Result Span Refusal × Receiver → Settled
as_settled p =
    let d : Span = or_none no_data p.0 in
    record { answer = code_of p.0; place = d.place; length = d.length; next = p.1 }

-- from the state that the call was given
abbrev pub receiver_step : Receiver → Result Receiver Refusal → ReceiverStep
receiver_step r a = record { answer = code_of a; next = or_none r a }

abbrev pub sender_step : Sender → Result Sender Refusal → SenderStep
sender_step s a = record { answer = code_of a; next = or_none s a }

abbrev pub no_draft : Draft
no_draft = record { number = 0; nonce = zeros12; form = record { assoc = 0; text = 0; total = 0 } }

abbrev pub as_built : Sender → Result (Draft × Sender) Refusal → Built
as_built s a =
    let b : Draft × Sender = or_none (no_draft, s) a in
    record {
      answer = code_of a;
      number = b.0.number;
      nonce = b.0.nonce;
      assoc = b.0.form.assoc;
      text = b.0.form.text;
      total = b.0.form.total;
      next = b.1;
    }

-- The declared answers of the table's calls, and what C is told of a result.
-- Assumes nothing.
use Rattle.std.specs.Prelude.{ℕ, Result}
use Rattle.answers.specs.Answer.{code_of, or_none}
use Rattle.answers.specs.declared.refusal.Refusal.{Refusal}
use Rattle.channel.specs.Call.{Answer}
use Rattle.channel.specs.Told.{no_data, no_draft}
use Rattle.channel.specs.declared.delivery.Span.{Span}
use Rattle.channel.specs.declared.sender.Draft.{Draft}
use Rattle.channel.specs.declared.ffi.Built.{Built}
use Rattle.record.specs.Nonce.{zeros12}
use Rattle.controller.specs.declared.ffi.Opened.{Opened}
use Rattle.controller.specs.declared.ffi.Taken.{Taken}
use Rattle.controller.specs.declared.ffi.Sent.{Sent}

-- Open's answer and row
abbrev pub as_opened : Result ℕ Refusal → ℕ × ℕ
as_opened r = (code_of r, or_none 0 r)

abbrev pub opened : ℕ × ℕ → Opened
opened p = record { answer = p.0; row = p.1 }

abbrev pub taken : Answer → Taken
taken a = record { answer = a.code; place = a.place; length = a.length }

abbrev pub as_taken : Result Span Refusal → Taken
as_taken r =
    let d : Span = or_none no_data r in
    record { answer = code_of r; place = d.place; length = d.length }

-- Build's answer without the sender
abbrev pub sent : Built → Sent
sent b = record { answer = b.answer; number = b.number; nonce = b.nonce; assoc = b.assoc; text = b.text; total = b.total }

abbrev pub as_sent : Result Draft Refusal → Sent
as_sent r =
    let d : Draft = or_none no_draft r in
    record {
      answer = code_of r;
      number = d.number;
      nonce = d.nonce;
      assoc = d.form.assoc;
      text = d.form.text;
      total = d.form.total;
    }

abbrev pub no_sent : ℕ → Sent
no_sent why = record { answer = why; number = 0; nonce = zeros12; assoc = 0; text = 0; total = 0 }

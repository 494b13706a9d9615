-- A result as the numbers that the definitions of `Read` and `Write` speak of.
-- Assumes nothing.
use Rattle.std.specs.Prelude.{Result}
use Rattle.answers.specs.Answer.{code_of, or_none}
use Rattle.answers.specs.declared.refusal.Refusal.{Refusal}
use Rattle.record.specs.declared.reader.Record.{Record}
use Rattle.record.specs.declared.writer.Form.{Form}
use Rattle.record.specs.Read.{Reading}
use Rattle.record.specs.Write.{Formed}

abbrev pub nothing_read : Record
nothing_read = record { assoc = 0; text = 0; plain = 0; place = 0 }

abbrev pub as_reading : Result Record Refusal → Reading
as_reading r =
    let f : Record = or_none nothing_read r in
    record { answer = code_of r; assoc = f.assoc; text = f.text; plain = f.plain; place = f.place }

abbrev pub nothing_formed : Form
nothing_formed = record { assoc = 0; text = 0; total = 0 }

abbrev pub as_formed : Result Form Refusal → Formed
as_formed r =
    let f : Form = or_none nothing_formed r in
    record { answer = code_of r; assoc = f.assoc; text = f.text; total = f.total }

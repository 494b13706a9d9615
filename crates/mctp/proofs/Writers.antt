-- The two writers touch nothing past what they write, and nothing on a refusal.
-- Assumes nothing.
use Prim.Native.Nat.{ℕ, ◌+◌}
use mathlib.Core.Bool.{Bool}
use mathlib.Core.List.{List}
use mathlib.Core.Path.{◌≡◌, refl, sym, ap, ◌∙◌}
use native.Mathlib.Nat.{zero-add}
use lib.Dec.{T, eqb}
use lib.ListN.{length, drop}
use lib.Seq.{take_at, drop_at}
use Rattle.answers.specs.Refusal as Refusal
use Rattle.answers.specs.Table.{Check, first}
use Rattle.answers.proofs.Given.{given_ok, given_no, why_is}
use Rattle.answers.proofs.Table.{within, first_within}
use Rattle.answers.proofs.Tests.{by_cases}
use Rattle.octets.specs.Parts.{over}
use Rattle.mctp.specs.declared.ffi.Wrote.{Wrote}
use Rattle.mctp.specs.Led.{none_wrote, room_rows, writes}
use Rattle.mctp.specs.Application.{data_of, wrap_rows, wrap_data}
use Rattle.mctp.specs.Message.{message_of, wrap_record}
use Rattle.mctp.specs.Promises.{Careful, written}

module _ (rows : List Check) (bytes out : List ℕ) where
  abbrev done : Wrote × List ℕ
  done = (record { answer = 0; length = length bytes }, over out 0 bytes)

  -- the answer is what the table says
  pub writes_answer : (writes rows bytes out).0.answer ≡ first rows
  unfolding writes
  writes_answer =
      sym (why_is (λ (w : Wrote × List ℕ). w.0.answer) done (λ (why : ℕ). (none_wrote why, out)) refl (λ k. refl) (writes rows bytes out) (first rows) refl)

  -- where nothing is refused the bytes are written
  pub writes_all : first rows ≡ 0 → ((writes rows bytes out).0 ≡ record { answer = 0; length = length bytes }) × (written (writes rows bytes out) ≡ bytes)
  unfolding writes
  writes_all e =
      let w = given_ok done (λ (why : ℕ). (none_wrote why, out)) (first rows) e in
      (ap (λ (x : Wrote × List ℕ). x.0) w, ap written w ∙ take_at bytes (drop (0 + length bytes) out) (length bytes) refl)

  -- a writer whose refusals are page 01's touches only what it writes
  pub careful : T (within Refusal.largest rows) → Careful out (writes rows bytes out)
  unfolding writes
  careful h =
      record {
        past =
            by_cases (λ (w : Wrote × List ℕ). drop w.0.length w.1 ≡ drop w.0.length out) (eqb (first rows) 0) done
            (none_wrote (first rows), out)
            (λ e. drop_at bytes (drop (0 + length bytes) out) (length bytes) refl ∙ rw zero-add)
            (λ e. refl);
        refused =
            λ n. given_no done (λ (why : ℕ). (none_wrote why, out)) (first rows) (λ e. n (writes_answer ∙ e))
            ∙ ap (λ (why : ℕ). (none_wrote why, out)) (sym writes_answer);
        within = rw writes_answer (first_within Refusal.largest rows h);
      }

-- the writer of application data
pub wrap_data_careful : (integrity : Bool) (kind : ℕ) (body out : List ℕ) → Careful out (wrap_data integrity kind body out)
unfolding wrap_rows room_rows
wrap_data_careful integrity kind body out = careful (wrap_rows integrity kind body out) (data_of integrity kind body) out tt

-- the writer of a message
pub wrap_record_careful : (rec out : List ℕ) → Careful out (wrap_record rec out)
unfolding room_rows
wrap_record_careful rec out = careful (room_rows (message_of rec) out) (message_of rec) out tt

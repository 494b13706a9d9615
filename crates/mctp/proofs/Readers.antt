-- What the two readers hand out: all behind the first byte, or zeros and nothing on a refusal.
-- Assumes nothing.
use Prim.Native.Nat.{ℕ}
use mathlib.Core.List.{List}
use mathlib.Core.Path.{◌≡◌, refl, sym, ap, ◌∙◌}
use Rattle.answers.specs.Refusal as Refusal
use Rattle.answers.specs.Table.{first}
use Rattle.answers.proofs.Given.{given_no, why_is}
use Rattle.answers.proofs.Table.{first_within}
use Rattle.mctp.specs.declared.ffi.Data.{Data}
use Rattle.mctp.specs.Kind.{integrity_of, kind_of}
use Rattle.mctp.specs.Led.{lead}
use Rattle.mctp.specs.Application.{no_data, unwrap_rows, read_data}
use Rattle.mctp.specs.Message.{frame_rows, read_message}
use Rattle.mctp.specs.Promises.{DataShown, RecordShown}
use Rattle.mctp.proofs.Parts.{behind_no, behind_ok}

module _ (app : List ℕ) where
  abbrev good : Data
  good = record { answer = 0; integrity = integrity_of (lead app); kind = kind_of (lead app) }

  -- the answer is what the table says
  pub read_answer : (read_data app).answer ≡ first (unwrap_rows app)
  unfolding read_data
  read_answer = sym (why_is (λ (d : Data). d.answer) good no_data refl (λ k. refl) (read_data app) (first (unwrap_rows app)) refl)

  read_refused : ((read_data app).answer ≡ 0 → ⊥) → read_data app ≡ no_data (read_data app).answer
  unfolding read_data
  read_refused n = given_no good no_data (first (unwrap_rows app)) (λ e. n (read_answer ∙ e)) ∙ ap no_data (sym read_answer)

  -- the reader of application data
  pub data_shown : DataShown app
  unfolding unwrap_rows
  data_shown =
      record {
        refused = λ n. (read_refused n, sym (behind_no (read_data app).answer app n));
        shown = λ e. sym (behind_ok (read_data app).answer app e);
        within = rw read_answer (first_within Refusal.largest (unwrap_rows app) tt);
      }

-- the reader of a message
pub record_shown : (message : List ℕ) → RecordShown message
unfolding frame_rows
record_shown message =
    record {
      refused = λ n. sym (behind_no (read_message message) message n);
      shown = λ e. sym (behind_ok (read_message message) message e);
      within = first_within Refusal.largest (frame_rows message) tt;
    }

-- Reading what a writer wrote gives back what was put in.
-- Assumes nothing.
use Prim.Native.Nat.{ℕ, ◌+◌, ◌/◌, ◌≤◌}
use mathlib.Core.Bool.{Bool, true, false}
use mathlib.Core.List.{List}
use mathlib.Core.Path.{◌≡◌, ap, ◌∙◌}
use native.Mathlib.Omega.{arith}
use lib.Dec.{eqb-suc-zero}
use lib.ListN.{length}
use borrow.Author.Tests.{ne_eqb, eq-eqb, le-ltb}
use Rattle.answers.specs.Table.{first}
use Rattle.mctp.specs.Kind as Kind
use Rattle.mctp.specs.Kind.{byte_of, integrity_of, kind_of}
use Rattle.mctp.specs.Led.{room_rows, behind}
use Rattle.mctp.specs.Application.{data_of, wrap_rows, wrap_data, unwrap_rows, read_data, body_of}
use Rattle.mctp.specs.Message.{message_of, wrap_record, frame_rows, read_message, record_of}
use Rattle.mctp.specs.Promises.{DataBack, RecordBack}
use Rattle.mctp.proofs.Writers.{writes_all}

-- the byte splits into the bit and the type that it was made of
pub byte_splits : (integrity : Bool) (kind : ℕ) → kind ≤ Kind.largest
    → (integrity_of (byte_of integrity kind) ≡ integrity) × (kind_of (byte_of integrity kind) ≡ kind)
unfolding byte_of integrity_of kind_of
byte_splits true kind h = (eq-eqb ((Kind.integrity_bit + kind) / Kind.integrity_bit) 1 (omega arith), omega arith)
byte_splits false kind h = (ne_eqb (kind / Kind.integrity_bit) 1 (λ e. omega arith), omega arith)

module _ (integrity : Bool) (kind : ℕ) (body : List ℕ) (low : kind ≤ Kind.largest) (allowed : kind ≡ Kind.barred → ⊥) where
  data_read : read_data (data_of integrity kind body) ≡ record { answer = 0; integrity = integrity; kind = kind }
  unfolding read_data unwrap_rows
  data_read =
      let s = byte_splits integrity kind low in
      rw (eqb-suc-zero (length body), s.0, s.1, ne_eqb kind Kind.barred allowed)

  body_read : body_of (data_of integrity kind body) ≡ body
  unfolding behind
  body_read = rw data_read

  -- a type that is allowed, with room for the body, is written and read back
  pub data_back : (out : List ℕ) → 1 + length body ≤ length out → DataBack integrity kind body (wrap_data integrity kind body out)
  unfolding wrap_rows room_rows
  data_back out room =
      let none : first (wrap_rows integrity kind body out) ≡ 0 =
      rw (ne_eqb kind Kind.barred allowed, le-ltb Kind.largest kind low, le-ltb (length out) (length (data_of integrity kind body)) (omega arith)) in
      let w = writes_all (wrap_rows integrity kind body out) (data_of integrity kind body) out none in
      record { wrote = w.0 ∙ ap (λ (n : ℕ). record { answer = 0; length = n }) (omega arith); read = ap read_data w.1 ∙ data_read; rest = ap body_of w.1 ∙ body_read }

-- a record with room is written and read back
pub record_back : (rec out : List ℕ) → 1 + length rec ≤ length out → RecordBack rec (wrap_record rec out)
unfolding room_rows frame_rows behind
record_back rec out room =
    let none : first (room_rows (message_of rec) out) ≡ 0 = rw (le-ltb (length out) (length (message_of rec)) (omega arith)) in
    let w = writes_all (room_rows (message_of rec) out) (message_of rec) out none in
    let r : read_message (message_of rec) ≡ 0 = rw (eqb-suc-zero (length rec)) in
    record { wrote = w.0 ∙ ap (λ (n : ℕ). record { answer = 0; length = n }) (omega arith); read = ap read_message w.1 ∙ r; rest = ap record_of w.1 ∙ rw r }

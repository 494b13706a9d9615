-- Application data: one byte, of E-IC and the encapsulated type, and then the body.
-- Assumes nothing.
use Rattle.std.specs.Prelude.{ℕ, Bool, false, ◌||◌, List, [], ◌∷◌, Result, ltb, eqb, length}
use Rattle.answers.specs.Refusal as Refusal
use Rattle.answers.specs.Answer.{code_of, or_none}
use Rattle.answers.specs.declared.refusal.Refusal.{Refusal}
use Rattle.answers.specs.Table.{Check, first, given}
use Rattle.mctp.specs.declared.application.Header.{Header}
use Rattle.mctp.specs.declared.ffi.Data.{Data}
use Rattle.mctp.specs.declared.ffi.Wrote.{Wrote}
use Rattle.mctp.specs.Kind as Kind
use Rattle.mctp.specs.Kind.{byte_of, integrity_of, kind_of}
use Rattle.mctp.specs.Led.{room_rows, writes, lead, behind}

-- ---- writing

abbrev pub data_of : Bool → ℕ → List ℕ → List ℕ
data_of integrity kind body = byte_of integrity kind ∷ body

-- inner type 6, or a type above 127; then too little room
unfoldable pub wrap_rows : Bool → ℕ → List ℕ → List ℕ → List Check
wrap_rows integrity kind body out =
    (eqb kind Kind.barred || ltb Kind.largest kind, Refusal.wrapped) ∷ room_rows (data_of integrity kind body) out

abbrev pub wrap_data : Bool → ℕ → List ℕ → List ℕ → Wrote × List ℕ
wrap_data integrity kind body out = writes (wrap_rows integrity kind body out) (data_of integrity kind body) out

-- ---- reading

-- empty data, or inner type 6
unfoldable pub unwrap_rows : List ℕ → List Check
unwrap_rows app = (eqb (length app) 0 || eqb (kind_of (lead app)) Kind.barred, Refusal.wrapped) ∷ []

abbrev pub no_data : ℕ → Data
no_data why = record { answer = why; integrity = false; kind = 0 }

-- the header of zeros
abbrev pub no_header : Header
no_header = record { integrity = false; kind = 0 }

-- what a result is, as numbers
abbrev pub as_data : Result Header Refusal → Data
as_data r = record { answer = code_of r; integrity = (or_none no_header r).integrity; kind = (or_none no_header r).kind }

unfoldable pub read_data : List ℕ → Data
read_data app =
    given (first (unwrap_rows app))
    (record { answer = 0; integrity = integrity_of (lead app); kind = kind_of (lead app) })
    no_data

abbrev pub body_of : List ℕ → List ℕ
body_of app = behind (read_data app).answer app

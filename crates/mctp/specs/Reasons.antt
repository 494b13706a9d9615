-- Why each of the four calls is refused, as page 01 says it and in its order.
-- Assumes nothing.
use Rattle.std.specs.Prelude.{ℕ, ◌+◌, ◌<◌, List, [], ◌∷◌, ◌⊎◌, ◌≡◌, length}
use Rattle.answers.specs.Refusal as Refusal
use Rattle.answers.specs.Reasons.{Reason, ◌refuses◌}
use Rattle.mctp.specs.Kind as Kind
use Rattle.mctp.specs.Kind.{kind_of}
use Rattle.mctp.specs.Led.{lead}

-- inner type 6, or a type above 127; the output buffer is shorter than the total
abbrev pub wrap_data_reasons : ℕ → List ℕ → List ℕ → List Reason
wrap_data_reasons kind body out =
    ((kind ≡ Kind.barred) ⊎ (Kind.largest < kind)) refuses Refusal.wrapped
    ∷ (length out < 1 + length body) refuses Refusal.room
    ∷ []

-- empty data, or inner type 6
abbrev pub read_data_reasons : List ℕ → List Reason
read_data_reasons app = ((app ≡ []) ⊎ (kind_of (lead app) ≡ Kind.barred)) refuses Refusal.wrapped ∷ []

-- the output buffer is shorter than the total
abbrev pub wrap_record_reasons : List ℕ → List ℕ → List Reason
wrap_record_reasons rec out = (length out < 1 + length rec) refuses Refusal.room ∷ []

-- the message is empty, or its first byte is not 0x06
abbrev pub read_message_reasons : List ℕ → List Reason
read_message_reasons message = ((message ≡ []) ⊎ (lead message ≡ Kind.secured → ⊥)) refuses Refusal.frame ∷ []

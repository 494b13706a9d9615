-- Why each call of a sender and a receiver is refused, in page 01's words and order.
-- Assumes nothing.
use Rattle.std.specs.Prelude.{ℕ, ◌<◌, Bool, true, false, List, [], ◌∷◌, ◌++◌, ◌⊎◌, ◌≡◌, length}
use Rattle.answers.specs.Refusal as Refusal
use Rattle.answers.specs.Reasons.{Reason, ◌refuses◌}
use Rattle.numbers.specs.Contract.{width_of}
use Rattle.numbers.specs.Reasons.{Unsound, number_reasons}
use Rattle.record.specs.Setting.{rule_of}
use Rattle.record.specs.Shape.{plain_len}
use Rattle.record.specs.Reasons.{BadSetting, TooLong, record_reasons, form_reasons, room_reasons}
use Rattle.channel.specs.declared.receiver.Receiver.{Receiver}
use Rattle.channel.specs.declared.sender.Sender.{Sender}
use Rattle.channel.specs.Key.{last_count, zero_key}
use Rattle.channel.specs.View.{key_at, count_at, number_at}
use Rattle.channel.specs.Call.{Call, offer, settle, gaps, change_key, drop_old}
use Rattle.channel.specs.Receiver.{look}

-- ---- State

-- a setting that Open would refuse; for either receive key, what its window's rule forbids; no old key held but its fields not all
-- zero; an old key held with key count 0
abbrev pub BadReceiver : Receiver → Type 0
BadReceiver r =
    BadSetting r.setting
    ⊎ Unsound (rule_of r.setting) r.current.window
    ⊎ Unsound (rule_of r.setting) r.old.window
    ⊎ ((r.held ≡ false) × (r.old ≡ zero_key → ⊥))
    ⊎ ((r.held ≡ true) × (r.count ≡ 0))

-- a setting that Open would refuse, or the next number above L
abbrev pub BadSender : Sender → Type 0
BadSender s = BadSetting s.setting ⊎ (s.setting.limit < s.next)

-- ---- the receiver's calls

-- slot above 1, or slot 1 with no old key
abbrev pub NoKey : Receiver → ℕ → Type 0
NoKey r slot = (1 < slot) ⊎ ((slot ≡ 1) × (r.held ≡ false))

abbrev pub slot_reasons : Receiver → ℕ → List Reason
slot_reasons r slot = BadReceiver r refuses Refusal.state ∷ NoKey r slot refuses Refusal.key ∷ []

-- of the slot that was asked for
abbrev pub place_reasons : Receiver → List ℕ → ℕ → List Reason
place_reasons r rec slot =
    let k = key_at (look r) slot in
    number_reasons (width_of (rule_of r.setting)) r.setting.limit k.next k.seen (number_at (look r) rec slot)

abbrev pub offer_reasons : Receiver → List ℕ → ℕ → List Reason
offer_reasons r rec slot = slot_reasons r slot ++ (record_reasons r.setting rec ++ place_reasons r rec slot)

-- key count or number differs from the one worked out now; the plaintext buffer's length; the cipher said no; the data length
abbrev pub cipher_reasons : Receiver → List ℕ → ℕ → ℕ → ℕ → Bool → List ℕ → List Reason
cipher_reasons r rec slot count number passed plain =
    ((count ≡ count_at (look r) slot → ⊥) ⊎ (number ≡ number_at (look r) rec slot → ⊥)) refuses Refusal.stale
    ∷ (length plain ≡ plain_len r.setting rec → ⊥) refuses Refusal.plain
    ∷ (passed ≡ true → ⊥) refuses Refusal.mac
    ∷ TooLong r.setting rec plain refuses Refusal.inner
    ∷ []

abbrev pub reasons : Receiver → Call → List Reason
reasons r (offer rec slot) = offer_reasons r rec slot
reasons r (settle rec slot count number passed plain) =
    offer_reasons r rec slot ++ cipher_reasons r rec slot count number passed plain
reasons r (gaps slot) = slot_reasons r slot
reasons r (change_key iv) =
    BadReceiver r refuses Refusal.state
    ∷ (r.held ≡ true) refuses Refusal.held
    ∷ (r.count ≡ last_count) refuses Refusal.epochs
    ∷ []
reasons r drop_old = BadReceiver r refuses Refusal.state ∷ (r.held ≡ true → ⊥) refuses Refusal.key ∷ []

-- ---- the sender's calls

-- p bytes of data, q random bytes, a buffer of `room` bytes
abbrev pub build_reasons : Sender → ℕ → ℕ → ℕ → List Reason
build_reasons s p q room =
    BadSender s refuses Refusal.state
    ∷ (s.next ≡ s.setting.limit) refuses Refusal.spent
    ∷ (form_reasons s.setting p q ++ room_reasons s.setting p q room)

abbrev pub change_reasons : Sender → List Reason
change_reasons s = BadSender s refuses Refusal.state ∷ (s.count ≡ last_count) refuses Refusal.epochs ∷ []

-- The rules of a receiver's calls: the table of each, what it answers where nothing is refused, and what it does.
-- Assumes nothing.
use Rattle.std.specs.Prelude.{ℕ, Bool, not, cond, ◌||◌, List, [], ◌∷◌, ◌++◌, eqb, length}
use Rattle.answers.specs.Refusal as Refusal
use Rattle.answers.specs.Table.{Check, first, given, differ}
use Rattle.numbers.specs.Number.{gap_count}
use Rattle.numbers.specs.Contract.{width_of}
use Rattle.record.specs.Setting.{rule_of}
use Rattle.record.specs.Nonce.{nonce_of}
use Rattle.record.specs.Shape.{assoc_end, text_end, plain_len, data_place, data_len, inner_bad}
use Rattle.record.specs.Read.{record_rows, place_rows}
use Rattle.channel.specs.Key.{last_count}
use Rattle.channel.specs.View.{View, no_key, key_at, count_at, number_at}
use Rattle.channel.specs.Call.{Call, offer, settle, gaps, change_key, drop_old, Answer, only, offers, settles, counts, Effect, stay, marking, turning, dropping, Outcome}

-- ---- the groups of checks

-- 1
unfoldable pub state_rows : View → List Check
state_rows v = (v.bad, Refusal.state) ∷ []

-- 1, 3
unfoldable pub slot_rows : View → ℕ → List Check
slot_rows v slot = state_rows v ++ (no_key v slot, Refusal.key) ∷ []

-- 8 to 10, from the slot that was asked for
abbrev pub place_rows_at : View → List ℕ → ℕ → List Check
place_rows_at v r slot = place_rows v.setting (key_at v slot).next (key_at v slot).seen r

-- 1, 3 to 10
unfoldable pub offer_rows : View → List ℕ → ℕ → List Check
offer_rows v r slot = slot_rows v slot ++ (record_rows v.setting r ++ place_rows_at v r slot)

-- 11 to 13
unfoldable pub cipher_rows : View → List ℕ → ℕ → ℕ → ℕ → Bool → List ℕ → List Check
cipher_rows v r slot count number passed plain =
    (differ count (count_at v slot) || differ number (number_at v r slot), Refusal.stale)
    ∷ (differ (length plain) (plain_len v.setting r), Refusal.plain)
    ∷ (not passed, Refusal.mac)
    ∷ []

-- 14: the record is authentic
unfoldable pub marking_rows : View → List ℕ → List ℕ → List Check
marking_rows v r plain = (inner_bad v.setting r plain, Refusal.inner) ∷ []

-- ---- the table of each call

unfoldable pub rows : View → Call → List Check
rows v (offer r slot) = offer_rows v r slot
rows v (settle r slot count number passed plain) =
    offer_rows v r slot ++ (cipher_rows v r slot count number passed plain ++ marking_rows v r plain)
rows v (gaps slot) = slot_rows v slot
rows v (change_key iv) = state_rows v ++ (v.held, Refusal.held) ∷ (eqb v.count last_count, Refusal.epochs) ∷ []
rows v drop_old = state_rows v ++ (not v.held, Refusal.key) ∷ []

-- ---- what it answers where nothing is refused, and what it does to the state

unfoldable pub granted : View → Call → Answer
granted v (offer r slot) =
    offers (count_at v slot) (number_at v r slot)
    (nonce_of v.setting (key_at v slot).iv (number_at v r slot))
    (assoc_end v.setting r) (text_end v.setting r)
granted v (settle r slot count number passed plain) = settles (data_place v.setting r) (data_len v.setting r plain)
granted v (gaps slot) = counts (gap_count (width_of (rule_of v.setting)) (key_at v slot).next (key_at v slot).seen)
granted v (change_key iv) = only 0
granted v drop_old = only 0

unfoldable pub effect_of : Call → Effect
effect_of (offer r slot) = stay
effect_of (settle r slot count number passed plain) = marking slot number
effect_of (gaps slot) = stay
effect_of (change_key iv) = turning iv
effect_of drop_old = dropping

-- a refusal answers its number alone and keeps the state; but one that marks does what the call does
unfoldable pub refused : Call → ℕ → Outcome
refused c why = record { answer = only why; effect = cond (Refusal.marks why) (effect_of c) stay }

unfoldable pub outcome : View → Call → Outcome
outcome v c = given (first (rows v c)) (record { answer = granted v c; effect = effect_of c }) (refused c)

-- A refused call of a receiver, in any state: it answers its number and zeros, keeps the state but where it marks, and shows nothing.
-- Its buffers are lent to be read only, so that they stay as they were.
-- Assumes nothing.
use Prim.Native.Nat.{ℕ, ◌-◌, ◌≤◌}
use mathlib.Core.Path.{◌≡◌, refl, sym, ap, ◌∙◌}
use mathlib.Core.Logic.{◌≢◌}
use mathlib.Core.Bool.{Bool, false}
use mathlib.Core.List.{List, []}
use lib.Dec.{T, leb, eqb}
use lib.ListN.{length}
use Rattle.answers.specs.Refusal as Refusal
use Rattle.answers.specs.Refusal.{authentic}
use Rattle.answers.proofs.Table.{unmarking, first_unmarking}
use Rattle.answers.proofs.Tests.{by_cases}
use Rattle.channel.proofs.Outcome.{code_of, code_within, effect_is, refused_is, after_no}
use Rattle.channel.specs.Call.{Call, offer, settle, gaps, change_key, drop_old, Answer, only, Effect, stay}
use Rattle.channel.specs.Receiver.{look, change, answer_to, state_after, offered, settled, counted, changed, offer_of, settle_of, gaps_of, change_receiver, drop_of}
use Rattle.channel.specs.Rules.{state_rows, slot_rows, offer_rows, rows, effect_of, outcome}
use Rattle.channel.specs.declared.receiver.Receiver.{Receiver}
use Rattle.numbers.specs.Number.{number_rows}
use Rattle.octets.specs.Parts.{part}
use Rattle.record.specs.Nonce.{zeros12}
use Rattle.record.specs.Read.{record_rows, place_rows}
use Rattle.record.specs.View.{view_of}

-- ---- the answer

-- a refusal answers its number, and zeros in all other fields
pub refused_zeros : (r : Receiver) (c : Call) → (answer_to r c).code ≢ 0 → answer_to r c ≡ only (answer_to r c).code
unfolding answer_to
refused_zeros r c h = refused_is (look r) c h

-- every answer is 0 or a number of the list
pub answer_within : (r : Receiver) (c : Call) → (answer_to r c).code ≤ Refusal.largest
unfolding answer_to
answer_within r c = code_within (look r) c

-- ---- the state

-- a refusal that does not mark keeps the state
pub refused_keeps : (r : Receiver) (c : Call) → (answer_to r c).code ≢ 0 → Refusal.marks (answer_to r c).code ≡ false → state_after r c ≡ r
refused_keeps r c h m = after_no r c (answer_to r c).code (sym (code_of r c)) h m

quiet : (r : Receiver) (c : Call) → effect_of c ≡ stay → state_after r c ≡ r
unfolding state_after change
quiet r c e =
    ap (change r) (effect_is (look r) c
    ∙ by_cases (λ (x : Effect). x ≡ stay) (authentic (outcome (look r) c).answer.code) (effect_of c) stay (λ h. e) (λ h. refl))

-- Offer never changes the state
pub offer_stays : (r : Receiver) (rec : List ℕ) (slot : ℕ) → state_after r (offer rec slot) ≡ r
unfolding effect_of
offer_stays r rec slot = quiet r (offer rec slot) refl

-- nor does Gaps
pub gaps_stays : (r : Receiver) (slot : ℕ) → state_after r (gaps slot) ≡ r
unfolding effect_of
gaps_stays r slot = quiet r (gaps slot) refl

-- no call but Settle has a refusal that marks
plain_table : (r : Receiver) (c : Call) → T (unmarking (rows (look r) c)) → Refusal.marks (answer_to r c).code ≡ false
plain_table r c h = rw (code_of r c) (first_unmarking (rows (look r) c) h)

module _ (r : Receiver) where
  -- no answer of Offer marks
  pub offer_plain : (rec : List ℕ) (slot : ℕ) → Refusal.marks (answer_to r (offer rec slot)).code ≡ false
  unfolding rows offer_rows slot_rows state_rows record_rows place_rows number_rows authentic Refusal.marks
  offer_plain rec slot = plain_table r (offer rec slot) tt

  -- nor of Gaps
  pub gaps_plain : (slot : ℕ) → Refusal.marks (answer_to r (gaps slot)).code ≡ false
  unfolding rows slot_rows state_rows authentic Refusal.marks
  gaps_plain slot = plain_table r (gaps slot) tt

  -- nor of a key change
  pub change_plain : (iv : List ℕ) → Refusal.marks (answer_to r (change_key iv)).code ≡ false
  unfolding rows state_rows authentic Refusal.marks
  change_plain iv = plain_table r (change_key iv) tt

  -- nor of Drop
  pub drop_plain : Refusal.marks (answer_to r drop_old).code ≡ false
  unfolding rows state_rows authentic Refusal.marks
  drop_plain = plain_table r drop_old tt

-- ---- the view

part_none : (x : List ℕ) → part x 0 0 ≡ []
unfolding part
part_none x =
    by_cases (λ (y : List ℕ). y ≡ []) (leb 0 (length x)) _ _
    (λ h. by_cases (λ (y : List ℕ). y ≡ []) (leb 0 (length x - 0)) _ _ (λ h. refl) (λ h. refl)) (λ h. refl)

empty_view : (mode : ℕ) (rec plain : List ℕ) → view_of mode 0 0 rec plain ≡ []
unfolding view_of
empty_view mode rec plain =
    by_cases (λ (y : List ℕ). y ≡ []) (eqb mode 0) _ _ (λ h. part_none rec)
    (λ h. by_cases (λ (y : List ℕ). y ≡ []) (eqb mode 1) _ _ (λ h. part_none plain) (λ h. refl))

-- the view of a refused answer is empty, for every mode and buffer
pub refused_view : (r : Receiver) (c : Call) → (answer_to r c).code ≢ 0 → (mode : ℕ) (rec plain : List ℕ)
    → view_of mode (answer_to r c).place (answer_to r c).length rec plain ≡ []
refused_view r c h mode rec plain =
    let e = refused_zeros r c h in
    rw (ap (λ (x : Answer). x.place) e, ap (λ (x : Answer). x.length) e) (empty_view mode rec plain)

-- ---- the same of the declared answers, call by call

module _ (r : Receiver) where
  -- a refused Offer
  pub refused_offer : (rec : List ℕ) (slot : ℕ) → (offer_of r rec slot).answer ≢ 0
      → offer_of r rec slot ≡ record { answer = (offer_of r rec slot).answer; count = 0; number = 0; nonce = zeros12; assoc = 0; text = 0 }
  refused_offer rec slot h = ap offered (refused_zeros r (offer rec slot) h)

  -- a refused Gaps
  pub refused_gaps : (slot : ℕ) → (gaps_of r slot).answer ≢ 0 → gaps_of r slot ≡ record { answer = (gaps_of r slot).answer; gaps = 0 }
  refused_gaps slot h = ap counted (refused_zeros r (gaps slot) h)

  -- a refused Settle that does not mark; Marking has the others
  pub refused_settle : (rec : List ℕ) (slot count number : ℕ) (passed : Bool) (plain : List ℕ)
      → (settle_of r rec slot count number passed plain).answer ≢ 0 → Refusal.marks (settle_of r rec slot count number passed plain).answer ≡ false
      → settle_of r rec slot count number passed plain
      ≡ record { answer = (settle_of r rec slot count number passed plain).answer; place = 0; length = 0; next = r }
  refused_settle rec slot count number passed plain h m =
      let c = settle rec slot count number passed plain in
      ap (settled (answer_to r c)) (refused_keeps r c h m) ∙ ap (λ (a : Answer). settled a r) (refused_zeros r c h)

  -- a refused key change
  pub refused_change : (iv : List ℕ) → (change_receiver r iv).answer ≢ 0 → change_receiver r iv ≡ record { answer = (change_receiver r iv).answer; next = r }
  refused_change iv h = ap (changed (answer_to r (change_key iv))) (refused_keeps r (change_key iv) h (change_plain r iv))

  -- a refused Drop
  pub refused_drop : (drop_of r).answer ≢ 0 → drop_of r ≡ record { answer = (drop_of r).answer; next = r }
  refused_drop h = ap (changed (answer_to r drop_old)) (refused_keeps r drop_old h (drop_plain r))

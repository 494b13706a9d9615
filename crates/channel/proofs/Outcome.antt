-- What a call answers and does, from what its table says: of any view first, then of the receiver.
-- Assumes nothing.
use Prim.Native.Nat.{ℕ, ◌≤◌}
use mathlib.Core.Bool.{true, false, cond}
use mathlib.Core.Path.{◌≡◌, refl, sym, ap, ◌∙◌}
use lib.Dec.{T, eqb}
use borrow.Author.Tests.{eq-eqb, ne_eqb}
use Rattle.answers.specs.Refusal as Refusal
use Rattle.answers.specs.Refusal.{marks, authentic}
use Rattle.answers.specs.Table.{first}
use Rattle.answers.proofs.Tests.{by_cases}
use Rattle.answers.proofs.Table.{within, first_within}
use Rattle.answers.proofs.Given.{why_is}
use Rattle.numbers.specs.Number.{number_rows}
use Rattle.record.specs.Read.{record_rows, place_rows}
use Rattle.channel.specs.declared.receiver.Receiver.{Receiver}
use Rattle.channel.specs.View.{View}
use Rattle.channel.specs.Call.{Call, offer, settle, gaps, change_key, drop_old, only, stay, Outcome}
use Rattle.channel.specs.Rules.{state_rows, slot_rows, offer_rows, cipher_rows, marking_rows, rows, granted, effect_of, refused, outcome}
use Rattle.channel.specs.Receiver.{look, change, answer_to, state_after}

-- ---- of any view

granted_code : (v : View) (c : Call) → (granted v c).code ≡ 0
unfolding granted
granted_code v (offer r slot) = refl
granted_code v (settle r slot count number passed plain) = refl
granted_code v (gaps slot) = refl
granted_code v (change_key iv) = refl
granted_code v drop_old = refl

refused_code : (c : Call) (why : ℕ) → (refused c why).answer.code ≡ why
unfolding refused
refused_code c why = refl

module _ (v : View) (c : Call) where
  -- the answer is what the table says
  pub code_is : (outcome v c).answer.code ≡ first (rows v c)
  unfolding outcome
  code_is =
      sym (why_is (λ (o : Outcome). o.answer.code) (record { answer = granted v c; effect = effect_of c }) (refused c)
      (granted_code v c) (refused_code c) (outcome v c) (first (rows v c)) refl)

  effect_of_lem : (outcome v c).effect ≡ cond (authentic (first (rows v c))) (effect_of c) stay
  unfolding outcome refused authentic
  effect_of_lem =
      by_cases (λ (o : Outcome). o.effect ≡ cond (authentic (first (rows v c))) (effect_of c) stay) (eqb (first (rows v c)) 0) _ _
      (λ h. rw h) (λ h. rw h)

  -- where the answer is 0 or marks, it does what the call does; else nothing
  pub effect_is : (outcome v c).effect ≡ cond (authentic (outcome v c).answer.code) (effect_of c) stay
  effect_is = rw code_is effect_of_lem

  -- where nothing is refused, it answers what is granted
  pub granted_is : (outcome v c).answer.code ≡ 0 → (outcome v c).answer ≡ granted v c
  unfolding outcome
  granted_is h = rw (eq-eqb (first (rows v c)) 0 (sym code_is ∙ h))

  -- a refusal answers its number alone
  pub refused_is : ((outcome v c).answer.code ≡ 0 → ⊥) → (outcome v c).answer ≡ only (outcome v c).answer.code
  unfolding outcome refused
  refused_is h = rw (ne_eqb (first (rows v c)) 0 (λ e. h (code_is ∙ e)))

-- every number in a table is one of the list
rows_within : (v : View) (c : Call) → T (within Refusal.largest (rows v c))
unfolding rows state_rows slot_rows offer_rows record_rows place_rows number_rows cipher_rows marking_rows
rows_within v (offer r slot) = tt
rows_within v (settle r slot count number passed plain) = tt
rows_within v (gaps slot) = tt
rows_within v (change_key iv) = tt
rows_within v drop_old = tt

pub code_within : (v : View) (c : Call) → (outcome v c).answer.code ≤ Refusal.largest
code_within v c = rw (code_is v c) (first_within Refusal.largest (rows v c) (rows_within v c))

-- a state that is bad is refused as State by every call
pub bad_first : (v : View) (c : Call) → v.bad ≡ true → first (rows v c) ≡ Refusal.state
unfolding rows state_rows slot_rows offer_rows
bad_first v (offer r slot) b = rw b
bad_first v (settle r slot count number passed plain) b = rw b
bad_first v (gaps slot) b = rw b
bad_first v (change_key iv) b = rw b
bad_first v drop_old b = rw b

-- ---- of the receiver

module _ (r : Receiver) (c : Call) where
  pub code_of : (answer_to r c).code ≡ first (rows (look r) c)
  unfolding answer_to
  code_of = code_is (look r) c

  -- with no refusal
  module _ (e : first (rows (look r) c) ≡ 0) where
    pub answer_ok : answer_to r c ≡ granted (look r) c
    unfolding answer_to
    answer_ok = granted_is (look r) c (code_is (look r) c ∙ e)

    pub after_ok : state_after r c ≡ change r (effect_of c)
    unfolding state_after authentic
    after_ok = rw (effect_of_lem (look r) c, e)

  -- with a refusal
  module _ (why : ℕ) (e : first (rows (look r) c) ≡ why) (n : why ≡ 0 → ⊥) where
    pub answer_no : answer_to r c ≡ only why
    unfolding answer_to
    answer_no = refused_is (look r) c (λ z. n (sym e ∙ sym (code_is (look r) c) ∙ z)) ∙ ap only (code_is (look r) c ∙ e)

    after_why : state_after r c ≡ change r (cond (marks why) (effect_of c) stay)
    unfolding state_after authentic
    after_why = rw (effect_of_lem (look r) c, e, ne_eqb why 0 n)

    pub after_no : marks why ≡ false → state_after r c ≡ r
    unfolding change
    after_no m = after_why ∙ rw m

    -- one that marks
    pub after_mark : marks why ≡ true → state_after r c ≡ change r (effect_of c)
    after_mark m = after_why ∙ rw m

-- A refused call of a sender, in any state: it answers its number and zeros, writes nothing and returns the state given; and no call of a
-- sender returns a bad state from a good one.
-- Assumes nothing.
use Prim.Native.Nat.{ℕ, ◌≤◌}
use mathlib.Core.Path.{◌≡◌, refl, sym, ap, ◌∙◌}
use mathlib.Core.Logic.{◌≢◌}
use mathlib.Core.Bool.{false}
use mathlib.Core.List.{List}
use native.Mathlib.Omega.{arith}
use lib.Dec.{eqb}
use lib.ListN.{length}
use borrow.Author.Tests.{ltb-false, le-ltb, eqb-true, eqb-false}
use Rattle.answers.specs.Refusal as Refusal
use Rattle.answers.specs.Table.{first}
use Rattle.answers.proofs.Given.{given_no, why_is}
use Rattle.answers.proofs.Table.{first_within, row_passed}
use Rattle.answers.proofs.Tests.{by_cases, or_neither}
use Rattle.channel.specs.Sender.{bad_sender, spent, turn_to, built, sender_rows, build_rows, change_rows, build_of, build_out, change_sender, no_build}
use Rattle.channel.specs.declared.ffi.Built.{Built}
use Rattle.channel.specs.declared.sender.Sender.{Sender}
use Rattle.channel.specs.declared.ffi.SenderStep.{SenderStep}
use Rattle.octets.specs.Parts.{over}
use Rattle.record.specs.Setting.{bad_setting}
use Rattle.record.specs.Write.{form_rows, room_rows, front_of}

-- ---- Build

module _ (s : Sender) (p q room : ℕ) where
  -- its answer is its table's
  pub build_why : first (build_rows s p q room) ≡ (build_of s p q room).answer
  unfolding build_of
  build_why = why_is (λ (b : Built). b.answer) (built s p q) (no_build s) refl (λ k. refl) (build_of s p q room) (first (build_rows s p q room)) refl

  build_no : (build_of s p q room).answer ≢ 0 → build_of s p q room ≡ no_build s (build_of s p q room).answer
  unfolding build_of
  build_no h = given_no (built s p q) (no_build s) (first (build_rows s p q room)) (λ e. h (sym build_why ∙ e)) ∙ ap (no_build s) build_why

  -- every answer of Build is 0 or a number of the list
  pub build_within : (build_of s p q room).answer ≤ Refusal.largest
  unfolding build_rows sender_rows form_rows room_rows
  build_within = rw (← build_why) (first_within Refusal.largest (build_rows s p q room) tt)

-- a refused Build answers its number and zeros, returns the state given and leaves the buffer as it was
pub refused_build : (s : Sender) (app random out : List ℕ) → (build_of s (length app) (length random) (length out)).answer ≢ 0
    → (build_of s (length app) (length random) (length out) ≡ no_build s (build_of s (length app) (length random) (length out)).answer)
    × (build_out s app random out ≡ out)
unfolding build_out
refused_build s app random out h = (
  build_no s (length app) (length random) (length out) h,
  given_no (over out 0 (front_of s.setting s.next app random)) (λ (why : ℕ). out) (first (build_rows s (length app) (length random) (length out)))
      (λ e. h (sym (build_why s (length app) (length random) (length out)) ∙ e)),
)

-- ---- the key change

module _ (s : Sender) (iv : List ℕ) where
  -- its answer is its table's
  pub turn_why : first (change_rows s) ≡ (change_sender s iv).answer
  unfolding change_sender
  turn_why =
      why_is (λ (x : SenderStep). x.answer) (record { answer = 0; next = turn_to s iv }) (λ why. record { answer = why; next = s }) refl (λ k. refl)
      (change_sender s iv) (first (change_rows s)) refl

  -- a refused key change answers its number and returns the state given
  pub refused_turn : (change_sender s iv).answer ≢ 0 → change_sender s iv ≡ record { answer = (change_sender s iv).answer; next = s }
  unfolding change_sender
  refused_turn h =
      given_no (record { answer = 0; next = turn_to s iv }) (λ (why : ℕ). record { answer = why; next = s }) (first (change_rows s))
      (λ e. h (sym turn_why ∙ e))
      ∙ ap (λ (why : ℕ). record { answer = why; next = s }) turn_why

  -- every answer of the key change is 0 or a number of the list
  pub turn_within : (change_sender s iv).answer ≤ Refusal.largest
  unfolding change_rows sender_rows
  turn_within = rw (← turn_why) (first_within Refusal.largest (change_rows s) tt)

-- ---- good states stay good

-- the rules behind State, one by one
pub sender_parts : (s : Sender) → bad_sender s ≡ false → (bad_setting s.setting ≡ false) × (s.next ≤ s.setting.limit)
unfolding bad_sender
sender_parts s h = let p = or_neither (bad_setting s.setting) _ h in (p.0, ltb-false _ _ p.1)

-- and together
pub sender_whole : (s : Sender) → bad_setting s.setting ≡ false → s.next ≤ s.setting.limit → bad_sender s ≡ false
unfolding bad_sender
sender_whole s a b = rw (a, le-ltb s.setting.limit s.next b)

not_spent : (s : Sender) (p q room : ℕ) → first (build_rows s p q room) ≡ 0 → s.next ≢ s.setting.limit
unfolding build_rows sender_rows form_rows room_rows
not_spent s p q room e = eqb-false _ _ (row_passed Refusal.spent (build_rows s p q room) tt e)

-- Build keeps a good state good
pub build_good : (s : Sender) (p q room : ℕ) → bad_sender s ≡ false → bad_sender (build_of s p q room).next ≡ false
unfolding build_of
build_good s p q room g =
    by_cases (λ (b : Built). bad_sender b.next ≡ false) (eqb (first (build_rows s p q room)) 0) _ _
    (λ h. let a = sender_parts s g in let n = not_spent s p q room (eqb-true _ _ h) in sender_whole (spent s) a.0 (omega arith)) (λ h. g)

-- so does a key change
pub turn_good : (s : Sender) (iv : List ℕ) → bad_sender s ≡ false → bad_sender (change_sender s iv).next ≡ false
unfolding change_sender
turn_good s iv g =
    by_cases (λ (t : SenderStep). bad_sender t.next ≡ false) (eqb (first (change_rows s)) 0) _ _
    (λ h. let a = sender_parts s g in sender_whole (turn_to s iv) a.0 (omega arith)) (λ h. g)

-- Demand 2 bites: it fails of each wrong Build, and of wrong tables, on a closed case, by computation; it holds of the right ones.
-- Assumes nothing.
use Prim.Native.Nat.{ℕ, ◌-◌}
use mathlib.Core.Path.{◌≡◌, refl, sym, ap, ◌∙◌}
use mathlib.Core.Logic.{inl}
use mathlib.Core.Bool.{Bool, true, cond, ◌&&◌}
use mathlib.Core.List.{List, [], ◌∷◌, map}
use native.Mathlib.Omega.{arith}
use lib.Dec.{eqb}
use lib.ListN.{length, replicate}
use borrow.Author.Tests.{eq-eqb, eqb-true}
use Rattle.answers.proofs.Tests.{true_not_false}
use Rattle.answers.proofs.Tests.{by_cases}
use Rattle.channel.specs.Call.{Call, Answer, Outcome}
use Rattle.channel.specs.Receiver.{new_receiver, answer_to}
use Rattle.channel.proofs.Decisions.{bad_sender_lem, bad_receiver_lem}
use Rattle.numbers.proofs.Laws.{typed_none}
use Rattle.channel.specs.Rules.{outcome}
use Rattle.channel.specs.View.{View}
use Rattle.channel.specs.declared.sender.Sender.{Sender}
use Rattle.record.specs.Shape.{mac_len}
use Rattle.promises.specs.Premises.{CanBuild, CanTake}
use Rattle.promises.specs.Ways.{Fails, Builds, right_builds, offered_by, Reads}
use Rattle.promises.specs.WrongReceivers.{set, iv, refuses_all, number_zero}
use Rattle.promises.specs.WrongBuilds.{writes_nothing, built_as_other, wrong_builds}
use Rattle.promises.proofs.Computing.{computing}
use Rattle.promises.proofs.Failing.{fails}
use Rattle.promises.proofs.ReadBack.{read_back}

-- a sender before number 5, a buffer and a MAC
five : Sender
five = record { setting = set; count = 0; next = 5; iv = iv }

abbrev room : List ℕ
room = replicate 40 0

abbrev mac : List ℕ
mac = replicate 16 0

can_build : CanBuild five (1 ∷ []) [] room
unfolding computing five
can_build =
    record {
      declared = record { session = omega arith };
      state = (bad_sender_lem five).fails refl;
      left = omega arith;
      padding = λ h. refl;
      size = omega arith;
      room = omega arith;
    }

can_take : CanTake (new_receiver set iv) 0 five
unfolding computing five
can_take = record {
  state = (bad_receiver_lem (new_receiver set iv) (record { iv = refl; marks = typed_none })).fails refl;
  alike = refl;
  there = inl refl;
  iv = refl;
  reach = ((λ h. (omega arith, inl (omega arith))), (λ h. absurd (true_not_false refl h)));
  young = omega arith;
  fresh = refl;
}

mac_fits : length mac ≡ mac_len five.setting
unfolding computing five
mac_fits = refl

-- the length of Build's text, what Offer answers to the record and its number, and the number that Build answered
reading : (View → Call → Outcome) × Builds → ℕ × ℕ × ℕ × ℕ
reading x =
    let b = x.1 five (1 ∷ []) [] room in
    let a = offered_by x.0 b [] mac (new_receiver set iv) 0 in
    (b.0.text - b.0.assoc, a.code, a.number, b.0.number)

misread : map reading wrong_builds ≡ (0, 5, 0, 5) ∷ (0, 0, 5, 7) ∷ (0, 13, 0, 5) ∷ (0, 0, 0, 5) ∷ []
unfolding computing five reading writes_nothing built_as_other refuses_all number_zero
misread = refl

-- where the text has no bytes, Offer answers 0 and the number that Build answered
abbrev is_read : ℕ × ℕ × ℕ × ℕ → Bool
is_read p = cond (eqb 0 p.0) (eqb p.1 0 && eqb p.2 p.3) true

reads_read : (x : (View → Call → Outcome) × Builds) → Reads x.0 x.1 → is_read (reading x) ≡ true
unfolding reading
reads_read x t =
    by_cases (λ (b : Bool). b ≡ true) (eqb 0 (reading x).0) _ _
    (λ e.
    let r = t five (1 ∷ []) [] room [] mac (new_receiver set iv) 0 can_build can_take (eqb-true 0 (reading x).0 e) mac_fits in
    rw (eq-eqb (reading x).1 0 r.0, eq-eqb (reading x).2 (reading x).3 r.1))
    (λ e. refl)

-- demand 2 fails of each wrong Build, and of a table that refuses everything or answers number 0
pub wrong_builds_fail : Fails (λ x. Reads x.0 x.1) wrong_builds
wrong_builds_fail = fails _ reading is_read reads_read wrong_builds _ misread tt

-- and holds of the right ones
pub right_builds_lem : Reads outcome right_builds
unfolding answer_to
right_builds_lem s app random out sealed mac r slot B R hc hm =
    let w = read_back s app random out sealed mac r slot B R hc hm in
    (ap (λ (a : Answer). a.code) w.offered, ap (λ (a : Answer). a.number) w.offered ∙ sym w.number)

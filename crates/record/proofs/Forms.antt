-- The form of a record that is to be built.
-- Assumes nothing.
use Prim.Native.Nat.{ℕ, ◌≤◌, ◌<◌}
use mathlib.Core.Bool.{Bool}
use mathlib.Core.List.{List, ◌++◌}
use mathlib.Core.Path.{◌≡◌, refl, sym, ap, ◌∙◌}
use native.Mathlib.Omega.{arith}
use lib.ListN.{length}
use lib.Dec.{ltb}
use borrow.Author.Tests.{ltb-false, lt-ltb, le-ltb}
use Rattle.answers.specs.Refusal as Refusal
use Rattle.answers.specs.Table.{Check, first}
use Rattle.answers.proofs.Table.{first_past, first_stop, row_passed}
use Rattle.answers.proofs.Given.{given_no, why_is, ok_is}
use Rattle.octets.specs.Parts.{over}
use Rattle.record.proofs.Heads.{head_most}
use Rattle.record.proofs.Page.{mac_most}
use Rattle.record.specs.declared.setting.Setting.{Setting}
use Rattle.record.specs.Shape.{head_len, mac_len, inner_len, most_length}
use Rattle.record.specs.Write.{Formed, good_form, length_for, total_for, form_rows, room_rows, form_of, no_form, write_of, front_of, written}

-- the lengths are far from what a word can hold
pub inner_most : (s : Setting) → inner_len s ≤ 2
unfolding inner_len
inner_most s = omega arith

pub length_most : (s : Setting) → most_length s ≤ 65535
unfolding most_length
length_most s = omega arith

pub record Small (s : Setting) : Type 0 where
  pub head : head_len s ≤ 8
  pub mac : mac_len s ≤ 16
  pub inner : inner_len s ≤ 2
  pub most : most_length s ≤ 65535

pub small : (s : Setting) → Small s
small s = record { head = head_most s; mac = mac_most s; inner = inner_most s; most = length_most s }

module _ (s : Setting) (p q : ℕ) (f : Formed) (e : f ≡ form_of s p q) where
  pub form_why : first (form_rows s p q) ≡ f.answer
  unfolding form_of
  form_why = why_is (λ (x : Formed). x.answer) (good_form s p q) no_form refl (λ k. refl) f (first (form_rows s p q)) e

  pub form_is : f.answer ≡ 0 → f ≡ good_form s p q
  unfolding form_of
  form_is h = ok_is (λ (x : Formed). x.answer) (good_form s p q) no_form refl (λ k. refl) f (first (form_rows s p q)) e h

  -- the Length fits its field
  pub form_fits : f.answer ≡ 0 → length_for s p q ≤ most_length s
  unfolding form_rows
  form_fits h = ltb-false _ _ (row_passed Refusal.size (form_rows s p q) tt (form_why ∙ h))

-- a form and room for it: what `write` answers and writes, by what the form is that was planned
module _ (s : Setting) (number : ℕ) (app random out : List ℕ) (f : Formed) (e : f ≡ form_of s (length app) (length random)) where
  abbrev asked : List Check
  asked = form_rows s (length app) (length random)

  abbrev room : List Check
  room = room_rows s (length app) (length random) (length out)

  module _ (h : f.answer ≡ 0 → ⊥) where
    stopped : first (asked ++ room) ≡ f.answer
    stopped = first_stop asked room (λ z. h (sym (form_why s _ _ f e) ∙ z)) ∙ form_why s _ _ f e

    pub refused_form : f ≡ write_of s (length app) (length random) (length out)
    unfolding write_of form_of
    refused_form =
        e ∙ rw (form_why s _ _ f e, stopped)

    pub refused_bytes : out ≡ written s number app random out
    unfolding written
    refused_bytes = rw stopped (sym (given_no (over out 0 (front_of s number app random)) (λ (why : ℕ). out) f.answer h))

  module _ (h : f.answer ≡ 0) where
    past : first (asked ++ room) ≡ first room
    unfolding form_rows
    past = first_past asked room tt (form_why s (length app) (length random) f e ∙ h)

    pub total_is : f.total ≡ total_for s (length app) (length random)
    total_is = ap (λ (x : Formed). x.total) (form_is s _ _ f e h)

    -- the test of the room as the code makes it
    test : {b : Bool} → ltb (length out) f.total ≡ b → ltb (length out) (total_for s (length app) (length random)) ≡ b
    test t = ap (ltb (length out)) (sym total_is) ∙ t

    module _ (t : length out < f.total) where
      pub short_form : no_form Refusal.room ≡ write_of s (length app) (length random) (length out)
      unfolding write_of room_rows
      short_form = rw (past, test (lt-ltb _ _ t))

      pub short_bytes : out ≡ written s number app random out
      unfolding written room_rows
      short_bytes = rw (past, test (lt-ltb _ _ t))

    module _ (t : f.total ≤ length out) where
      pub good_form_is : f ≡ write_of s (length app) (length random) (length out)
      unfolding write_of room_rows
      good_form_is = form_is s _ _ f e h ∙ rw (past, test (le-ltb _ _ t))

      pub good_bytes : over out 0 (front_of s number app random) ≡ written s number app random out
      unfolding written room_rows
      good_bytes = rw (past, test (le-ltb _ _ t))

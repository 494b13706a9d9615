-- What Build answers and writes, from what the code found.
-- Assumes nothing.
use Prim.Native.Nat.{ℕ, ◌≤◌, ◌<◌}
use mathlib.Core.Bool.{Bool, true, false, ◌||◌}
use mathlib.Core.List.{List, ◌++◌}
use mathlib.Core.Logic.{◌≢◌}
use mathlib.Core.Path.{◌≡◌, refl, sym, ap, ◌∙◌}
use native.Mathlib.Omega.{arith}
use lib.Dec.{eqb}
use lib.ListN.{length}
use borrow.Author.Tests.{ltb-false, eqb-false}
use Rattle.answers.specs.Table.{Check, first, given}
use Rattle.answers.proofs.Given.{given_no, why_is, ok_is}
use Rattle.octets.specs.Parts.{over}
use Rattle.record.specs.Setting.{bad_setting}
use Rattle.record.specs.Nonce.{nonce_of}
use Rattle.record.specs.Write.{Formed, good_form, no_form, form_rows, room_rows, write_of, front_of, written}
use Rattle.channel.specs.declared.sender.Sender.{Sender}
use Rattle.channel.specs.declared.ffi.Built.{Built}
use Rattle.channel.specs.Sender.{bad_sender, sender_rows, build_rows, no_build, built, spent, build_of, build_out}

or_false_r : (a b : Bool) → a || b ≡ false → b ≡ false
or_false_r true b e = absurd (let z : ◌≡◌ {A = ℕ} 0 1 = cc in omega arith)
or_false_r false b e = e

-- a good sender that has not used all its numbers
pub below_limit : (s : Sender) → bad_sender s ≡ false → eqb s.next s.setting.limit ≡ false → s.next < s.setting.limit
unfolding bad_sender
below_limit s b n =
    let h : s.next ≤ s.setting.limit = ltb-false _ _ (or_false_r (bad_setting s.setting) _ b) in
    let k : s.next ≢ s.setting.limit = eqb-false _ _ n in
    omega arith

module _ (s : Sender) (app random out : List ℕ) where
  pub build_no : (why : ℕ) → first (build_rows s (length app) (length random) (length out)) ≡ why → (why ≡ 0 → ⊥)
      → (no_build s why ≡ build_of s (length app) (length random) (length out)) × (out ≡ build_out s app random out)
  unfolding build_of build_out
  build_no why e n = (
    rw e (sym (given_no (built s (length app) (length random)) (no_build s) why n)),
    rw e (sym (given_no (over out 0 (front_of s.setting s.next app random)) (λ (k : ℕ). out) why n)),
  )

  pub row_bad : bad_sender s ≡ true → first (build_rows s (length app) (length random) (length out)) ≡ 1
  unfolding build_rows sender_rows
  row_bad b = rw b

  pub row_spent : bad_sender s ≡ false → eqb s.next s.setting.limit ≡ true
      → first (build_rows s (length app) (length random) (length out)) ≡ 8
  unfolding build_rows sender_rows
  row_spent b n = rw (b, n)

  -- a good sender with a number left answers as the writer does, and writes what it writes
  module _ (b : bad_sender s ≡ false) (n : eqb s.next s.setting.limit ≡ false) where
    abbrev asked : List Check
    asked = form_rows s.setting (length app) (length random) ++ room_rows s.setting (length app) (length random) (length out)

    past : first (build_rows s (length app) (length random) (length out)) ≡ first asked
    unfolding build_rows sender_rows
    past = rw (b, n)

    pub bytes_are : written s.setting s.next app random out ≡ build_out s app random out
    unfolding build_out written
    bytes_are = ap (λ (w : ℕ). given w (over out 0 (front_of s.setting s.next app random)) (λ (k : ℕ). out)) (sym past)

    module _ (f : Formed) (e : f ≡ write_of s.setting (length app) (length random) (length out)) where
      why : first asked ≡ f.answer
      unfolding write_of
      why = why_is (λ (x : Formed). x.answer) (good_form s.setting (length app) (length random)) no_form refl (λ k. refl) f (first asked) e

      form_is : f.answer ≡ 0 → f ≡ good_form s.setting (length app) (length random)
      unfolding write_of
      form_is h = ok_is (λ (x : Formed). x.answer) (good_form s.setting (length app) (length random)) no_form refl (λ k. refl) f (first asked) e h

      pub build_write : (f.answer ≡ 0 → ⊥) → no_build s f.answer ≡ build_of s (length app) (length random) (length out)
      build_write h = (build_no f.answer (past ∙ why) h).0

      pub build_ok : f.answer ≡ 0 → {x : List ℕ} → x ≡ nonce_of s.setting s.iv s.next
          → ◌≡◌ {A = Built}
          (record {
            answer = 0;
            number = s.next;
            nonce = x;
            assoc = f.assoc;
            text = f.text;
            total = f.total;
            next = spent s;
          })
          (build_of s (length app) (length random) (length out))
      unfolding build_of
      build_ok h x = rw (x, past ∙ why ∙ h, form_is h)

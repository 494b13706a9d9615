-- Laws of an answer that is given with no refusal.
-- Assumes nothing.
use Prim.Native.Nat.{ℕ}
use mathlib.Core.Bool.{Bool, true, false, cond}
use mathlib.Core.Path.{◌≡◌, sym, ap, ◌∙◌, refl}
use lib.Dec.{eqb}
use borrow.Author.Tests.{eqb-true, eq-eqb, ne_eqb}
use Rattle.answers.specs.Table.{given}

module _ {A : Type 0} (ok : A) (f : ℕ → A) (why : ℕ) where
  pub given_ok : why ≡ 0 → given why ok f ≡ ok
  given_ok e = simp (eq-eqb why 0 e)

  pub given_no : (why ≡ 0 → ⊥) → given why ok f ≡ f why
  given_no h = simp (ne_eqb why 0 h)

cond_answer : {A : Type 0} (ans : A → ℕ) (ok : A) (f : ℕ → A) → ans ok ≡ 0 → ((k : ℕ) → ans (f k) ≡ k)
    → (b : Bool) (why : ℕ) → eqb why 0 ≡ b → ans (cond b ok (f why)) ≡ why
cond_answer ans ok f eo ef true why e = eo ∙ sym (eqb-true why 0 e)
cond_answer ans ok f eo ef false why e = ef why

module _ {A : Type 0} (ans : A → ℕ) (ok : A) (f : ℕ → A) (eo : ans ok ≡ 0) (ef : (k : ℕ) → ans (f k) ≡ k) (x : A) (why : ℕ) (e : x ≡ given why ok f) where
  -- the answer is the refusal
  pub why_is : why ≡ ans x
  why_is = sym (ap ans e ∙ cond_answer ans ok f eo ef (eqb why 0) why refl)

  -- with the answer 0 it is what is given with no refusal
  pub ok_is : ans x ≡ 0 → x ≡ ok
  ok_is h = e ∙ given_ok ok f why (why_is ∙ h)

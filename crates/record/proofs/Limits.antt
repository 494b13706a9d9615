-- When the data and the random bytes are too many for a record: Size.
-- Assumes nothing.
use Prim.Native.Nat.{ℕ, zero, suc, ◌+◌, ◌-◌, ◌≤◌, ◌<◌}
use mathlib.Core.Bool.{Bool, true, false}
use mathlib.Core.List.{[], ◌∷◌}
use mathlib.Core.Logic.{◌↔◌}
use mathlib.Core.Path.{◌≡◌, refl, sym, ◌∙◌}
use native.Mathlib.Omega.{arith}
use borrow.Author.Tests.{eqb-true, eqb-false}
use Rattle.answers.specs.Refusal as Refusal
use Rattle.answers.specs.Table.{first}
use Rattle.answers.specs.Reasons.{Tells}
use Rattle.record.specs.declared.setting.Setting.{Setting}
use Rattle.record.specs.Setting.{auth_only}
use Rattle.record.specs.Shape.{mac_len, inner_len, most_length}
use Rattle.record.specs.Write.{body_len, length_for, form_rows, form_of}
use Rattle.record.proofs.Forms.{form_why}
use Rattle.record.proofs.Page.{values}
use Rattle.record.proofs.Told.{form_told}

-- ---- the Length passes the largest

-- the largest Length leaves room for what goes with the data
pub fields_fit : (s : Setting) → inner_len s + mac_len s ≤ most_length s
unfolding inner_len mac_len most_length
fields_fit s = omega arith

-- the second of two checks decides where the first does not hold
second : (a b : Bool) {p q : Type 0} → Tells a p → Tells b q
    → (first ((a, Refusal.padding) ∷ (b, Refusal.size) ∷ []) ≡ Refusal.size) ↔ ((p → ⊥) × q)
second true b t u = ((λ e. absurd (omega arith)), (λ h. absurd (h.0 (t.holds refl))))
second false true t u = ((λ e. (t.fails refl, u.holds refl)), (λ h. refl))
second false false t u = ((λ e. absurd (omega arith)), (λ h. absurd (u.fails refl h.1)))

module _ (s : Setting) (p q : ℕ) where
  -- in mode 0: more than the largest Length without the MAC
  pub over_clear : auth_only s ≡ true → (most_length s < length_for s p q) ↔ (most_length s - mac_len s < p)
  unfolding body_len
  over_clear a = let f = fields_fit s in rw a ((λ h. omega arith), (λ h. omega arith))

  -- in mode 1: more than the largest Length without the data length and the MAC
  pub over_sealed : auth_only s ≡ false → (most_length s < length_for s p q) ↔ (most_length s - (inner_len s + mac_len s) < p + q)
  unfolding body_len
  over_sealed a = let f = fields_fit s in rw a ((λ h. omega arith), (λ h. omega arith))

  -- ---- the answer Size

  -- it is given where 15 is not and the Length passes the largest
  size_when : ((form_of s p q).answer ≡ Refusal.size) ↔ ((((s.mode ≡ 0) × (q ≡ 0 → ⊥)) → ⊥) × (most_length s < length_for s p q))
  unfolding form_rows
  size_when =
      let t = form_told s p q in
      let k = second _ _ t.0.0 t.1.0.0 in
      ((λ e. k.0 (form_why s p q _ refl ∙ e)), (λ h. sym (form_why s p q _ refl) ∙ k.1 h))

  -- in mode 0, over the names
  pub size_clear : auth_only s ≡ true → ((form_of s p q).answer ≡ Refusal.size) ↔ ((q ≡ 0) × (most_length s - mac_len s < p))
  unfolding auth_only
  size_clear a =
      let m = eqb-true _ _ a in (
        (λ e. let w = size_when.0 e in (none q (λ h. w.0 (m, h)), (over_clear a).0 w.1)),
        (λ h. size_when.1 ((λ w. w.1 h.0), (over_clear a).1 h.1)),
      )
    where
      none : (k : ℕ) → ((k ≡ 0 → ⊥) → ⊥) → k ≡ 0
      none zero h = refl
      none (suc k) h = absurd (h (λ e. omega arith))

  -- the same in numbers: 65,519 where the MAC has 16 bytes
  pub size_clear_page : auth_only s ≡ true → ((form_of s p q).answer ≡ Refusal.size) ↔ ((q ≡ 0) × (65535 - mac_len s < p))
  size_clear_page a =
      let v = values s in
      let k = size_clear a in
      ((λ e. ((k.0 e).0, omega (arith, (k.0 e).1))), (λ h. k.1 (h.0, omega (arith, h.1))))

  -- in mode 1, over the names
  pub size_sealed : auth_only s ≡ false → ((form_of s p q).answer ≡ Refusal.size) ↔ (most_length s - (inner_len s + mac_len s) < p + q)
  unfolding auth_only
  size_sealed a =
      ((λ e. (over_sealed a).0 (size_when.0 e).1), (λ h. size_when.1 ((λ w. eqb-false _ _ a w.0), (over_sealed a).1 h)))

  -- the same in numbers: 65,517 where the MAC has 16 bytes
  pub size_sealed_page : auth_only s ≡ false → ((form_of s p q).answer ≡ Refusal.size) ↔ (65533 - mac_len s < p + q)
  size_sealed_page a =
      let v = values s in
      let k = size_sealed a in
      ((λ e. omega (arith, k.0 e)), (λ h. k.1 (omega arith)))

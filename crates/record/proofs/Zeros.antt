-- The zeros of a setting are no setting of a channel.
-- Assumes nothing.
use mathlib.Core.Bool.{true, ◌&&◌, and_assoc}
use lib.Dec.{eqb}
use mathlib.Core.Path.{◌≡◌, refl, ap, ◌∙◌}
use borrow.Author.Tests.{eq-eqb}
use Rattle.answers.specs.Refusal as Refusal
use Rattle.answers.specs.Table.{first}
use Rattle.answers.specs.Reasons.{Tells}
use Rattle.answers.proofs.Table.{row_passed}
use Rattle.answers.proofs.Tests.{true_not_false, tells_eq, tells_and}
use Rattle.record.specs.declared.setting.Setting.{Setting}
use Rattle.record.specs.Setting.{zero_setting, same_setting, is_zero_setting, bad_mac, bad_width, bad_setting, open_rows}

-- Open refuses them
pub zeros_bad : bad_setting zero_setting ≡ true
unfolding bad_setting bad_mac bad_width
zeros_bad = refl

-- a setting that Open grants is not the zeros
pub granted_not_zeros : (s : Setting) → first (open_rows s) ≡ 0 → s ≡ zero_setting → ⊥
unfolding open_rows
granted_not_zeros s g e = true_not_false (ap bad_setting e ∙ zeros_bad) (row_passed Refusal.setting (open_rows s) tt g)

self : (s : Setting) → same_setting s s ≡ true
unfolding same_setting
self s =
    rw (
      eq-eqb s.mode s.mode refl,
      eq-eqb s.layout s.layout refl,
      eq-eqb s.mac s.mac refl,
      eq-eqb s.profile s.profile refl,
      eq-eqb s.width s.width refl,
      eq-eqb s.session s.session refl,
      eq-eqb s.limit s.limit refl,
    )

-- settings are one exactly where their fields are
pub same_setting_lem : (s t : Setting) → Tells (same_setting s t) (s ≡ t)
unfolding same_setting
same_setting_lem s t =
    let b =
    tells_and
    (tells_and
    (tells_and
    (tells_and
    (tells_and (tells_and (tells_eq s.mode t.mode) (tells_eq s.layout t.layout)) (tells_eq s.mac t.mac))
    (tells_eq s.profile t.profile))
    (tells_eq s.width t.width))
    (tells_eq s.session t.session))
    (tells_eq s.limit t.limit) in
    record {
      holds = λ e i. let z = b.holds e in record {
        mode = z.0.0.0.0.0.0 i;
        layout = z.0.0.0.0.0.1 i;
        mac = z.0.0.0.0.1 i;
        profile = z.0.0.0.1 i;
        width = z.0.0.1 i;
        session = z.0.1 i;
        limit = z.1 i;
      };
      fails = λ e p. true_not_false (ap (λ (x : Setting). same_setting x t) p ∙ self t) e;
    }

-- a setting's fields are all zero exactly where it is the zeros
pub zero_setting_lem : (s : Setting) → Tells (is_zero_setting s) (s ≡ zero_setting)
unfolding is_zero_setting
zero_setting_lem s = same_setting_lem s zero_setting

-- the test of `==`, which nests the other way
pub setting_test : (s t : Setting)
    → (eqb s.mode t.mode && (eqb s.layout t.layout && (eqb s.mac t.mac && (eqb s.profile t.profile && (eqb s.width t.width && (eqb s.session t.session && eqb s.limit t.limit))))))
    ≡ same_setting s t
unfolding same_setting
setting_test s t = simp and_assoc

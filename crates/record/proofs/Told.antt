-- What refuses a setting, a record, a form and a buffer, exactly when: each test of the tables tells its reason in page 01's words.
-- Assumes nothing.
use Prim.Native.Nat.{ℕ, ◌<◌}
use mathlib.Core.Bool.{Bool, true, false, cond}
use mathlib.Core.List.{List}
use mathlib.Core.Logic.{◌⊎◌, inl, inr}
use mathlib.Core.Path.{◌≡◌, refl}
use lib.Dec.{ltb}
use Rattle.answers.specs.Reasons.{Tells, Told}
use Rattle.answers.proofs.Reasons.{told_row}
use Rattle.answers.proofs.Tests.{tells_lt, tells_eq, tells_not, tells_or, tells_and, tells_differ}
use Rattle.record.specs.declared.setting.Setting.{Setting}
use Rattle.record.specs.Setting.{auth_only, bad_mac, bad_width, bad_setting, open_rows}
use Rattle.record.specs.Header.{length_of}
use Rattle.record.specs.Shape.{least, total_of, inner_bad}
use Rattle.record.specs.Read.{record_rows}
use Rattle.record.specs.Write.{form_rows, room_rows}
use Rattle.record.specs.Reasons.{BadSetting, TooSmall, TooLong, open_reasons, record_reasons, form_reasons, room_reasons}

-- a setting that is none of a channel
pub bad_setting_lem : (s : Setting) → Tells (bad_setting s) (BadSetting s)
unfolding bad_setting bad_mac bad_width
bad_setting_lem s =
    let mac = tells_and (tells_and (tells_differ _ 8) (tells_differ _ 12)) (tells_differ _ 16) in
    let width = tells_and (tells_and (tells_and (tells_differ _ 64) (tells_differ _ 128)) (tells_differ _ 192)) (tells_differ _ 256) in
    tells_or (tells_or (tells_or (tells_or (tells_or (tells_lt _ _) (tells_lt _ _)) mac) (tells_lt _ _)) width) (tells_eq _ _)

-- 2: what Open refuses
pub open_told : (s : Setting) → Told (open_rows s) (open_reasons s)
unfolding open_rows
open_told s = (told_row (bad_setting_lem s), tt)

-- a bound that depends on a test
tells_cond : (b : Bool) {p : Type 0} (x m n : ℕ) → Tells b p → Tells (ltb x (cond b m n)) ((p × (x < m)) ⊎ ((p → ⊥) × (x < n)))
tells_cond true {p} x m n t = record { holds = λ e. inl (t.holds refl, (tells_lt x m).holds e); fails = λ e. go e }
  where
    go : ltb x m ≡ false → (p × (x < m)) ⊎ ((p → ⊥) × (x < n)) → ⊥
    go e (inl w) = (tells_lt x m).fails e w.1
    go e (inr w) = w.0 (t.holds refl)
tells_cond false {p} x m n t = record { holds = λ e. inr (t.fails refl, (tells_lt x n).holds e); fails = λ e. go e }
  where
    go : ltb x n ≡ false → (p × (x < m)) ⊎ ((p → ⊥) × (x < n)) → ⊥
    go e (inl w) = t.fails refl w.0
    go e (inr w) = (tells_lt x n).fails e w.1

-- 7: the least Length depends on the mode
small_told : (s : Setting) (r : List ℕ) → Tells (ltb (length_of s r) (least s)) (TooSmall s r)
unfolding least auth_only
small_told s r = tells_cond _ _ _ _ (tells_eq _ _)

-- 4 to 7: what refuses a record before any key is looked at
pub record_told : (s : Setting) (r : List ℕ) → Told (record_rows s r) (record_reasons s r)
unfolding record_rows total_of
record_told s r =
    (told_row (tells_lt _ _), (told_row (tells_differ _ _), (told_row (tells_differ _ _), (told_row (small_told s r), tt))))

-- 15 and 16: what refuses a form
pub form_told : (s : Setting) (p q : ℕ) → Told (form_rows s p q) (form_reasons s p q)
unfolding form_rows auth_only
form_told s p q = (told_row (tells_and (tells_eq _ _) (tells_differ _ _)), (told_row (tells_lt _ _), tt))

-- 17: what refuses a buffer
pub room_told : (s : Setting) (p q room : ℕ) → Told (room_rows s p q room) (room_reasons s p q room)
unfolding room_rows
room_told s p q room = (told_row (tells_lt _ _), tt)

-- 14
pub inner_told : (s : Setting) (r plain : List ℕ) → Tells (inner_bad s r plain) (TooLong s r plain)
unfolding inner_bad auth_only
inner_told s r plain = tells_and (tells_not (tells_eq _ _)) (tells_lt _ _)

-- Free rows and open ones.
-- Assumes nothing.
use Prim.Native.Nat.{ℕ, ◌≤◌, ◌<◌, zero, suc}
use mathlib.Core.Path.{◌≡◌, refl, ap, ◌∙◌}
use mathlib.Core.Bool.{Bool, true, false}
use mathlib.Core.List.{List}
use lib.Dec.{ltb}
use lib.ListN.{length, get_or-eq_default}
use borrow.Author.Tests.{not-true, ltb-true, ltb-false}
use Rattle.answers.proofs.Tests.{true_not_false}
use Rattle.record.specs.Setting.{is_zero_setting, bad_setting}
use Rattle.record.proofs.Zeros.{zeros_bad, zero_setting_lem}
use Rattle.channel.specs.Receiver.{is_zero_receiver}
use Rattle.rows.specs.Ends.{Ends, free_ends, is_free}
use Rattle.rows.proofs.Laws.{free_told}
use Rattle.controller.specs.Table.{row_at}
use Rattle.bay.specs.Reasons.{Open}
use Rattle.bay.specs.TableRun.{empty_table}

-- beyond the last row all is free
pub beyond_free : (t : List Ends) (i : ℕ) → length t ≤ i → is_free (row_at t i) ≡ true
beyond_free t i h = ap is_free (get_or-eq_default t free_ends h) ∙ free_told

-- so an open row is in the table
pub open_there : (t : List Ends) (i : ℕ) → is_free (row_at t i) ≡ false → i < length t
open_there t i h = go (ltb i (length t)) refl
  where
    go : (b : Bool) → ltb i (length t) ≡ b → i < length t
    go true e = ltb-true i (length t) e
    go false e = absurd (true_not_false (beyond_free t i (ltb-false i (length t) e)) h)

-- a row whose receiver has a setting that Open grants is open
pub set_open : (e : Ends) → bad_setting e.receiver.setting ≡ false → is_free e ≡ false
unfolding is_free is_zero_receiver
set_open e g = go (is_zero_setting e.receiver.setting) refl
  where
    go : (b : Bool) → is_zero_setting e.receiver.setting ≡ b → is_free e ≡ false
    go true z = absurd (true_not_false (ap bad_setting ((zero_setting_lem e.receiver.setting).holds z) ∙ zeros_bad) g)
    go false z = rw z

pub not_open_free : Open free_ends → ⊥
not_open_free o = true_not_false free_told (not-true _ o)

-- every row of an empty table is free
pub empty_free : (n i : ℕ) → row_at (empty_table n) i ≡ free_ends
empty_free zero i = refl
empty_free (suc n) zero = refl
empty_free (suc n) (suc i) = empty_free n i

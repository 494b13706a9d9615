-- The computed runs: in both modes data is handed out under the assumptions of T4, and Repeat is not for ever.
-- Assumes nothing.
use Prim.Native.Nat.{ℕ, zero, suc, ◌≤◌}
use mathlib.Core.Path.{refl}
use native.Mathlib.Omega.{arith}
use Rattle.promises.specs.Examples.{set_to, iv, opened, buffer, item, sent_as, early, late, new, late_record, LateRecord, far, bare, far_behind, FarBehind}
use Rattle.promises.proofs.Computed.{runs}
use Rattle.promises.proofs.Toy.{run_met}

-- a forged record, a repeated one, a key change and a late record of the old key, in both modes
pub late_record_lem : (m : ℕ) → m ≤ 1 → LateRecord m
unfolding runs set_to iv opened buffer item sent_as early late new late_record
late_record_lem zero h = record { codes = refl; handed = refl; honest = run_met (set_to 0) (opened 0) (late_record 0) tt }
late_record_lem (suc zero) h = record { codes = refl; handed = refl; honest = run_met (set_to 1) (opened 1) (late_record 1) tt }
late_record_lem (suc (suc m)) h = absurd (omega arith)

-- a record that was taken is offered with the answer 0 again, as another number, when it lies far behind
pub far_behind_lem : FarBehind
unfolding runs far bare far_behind iv
far_behind_lem = refl

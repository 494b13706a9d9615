-- Any run of a channel is one of a row; and the computed runs: T4's assumptions for the bay are met, and without new keys a record is handed
-- out again.
-- Assumes nothing.
use Prim.Native.Nat.{ℕ, zero, suc, ◌≤◌}
use mathlib.Core.Path.{◌≡◌, refl, sym, ap, ◌∙◌, subst}
use mathlib.Core.Logic.{◌≢◌, inr}
use mathlib.Core.List.Memᴰ
use mathlib.Core.List.{List, Memᴰ}
use native.Mathlib.Omega.{arith}
use lib.ListN.{get_or}
use Rattle.record.specs.Shape.{shortest}
use Rattle.channel.specs.Receiver.{is_zero_receiver}
use Rattle.channel.specs.Sender.{is_zero_sender}
use Rattle.promises.proofs.Computed.{runs}
use Rattle.promises.proofs.Demands as Base
use Rattle.promises.specs.Examples.{set_to, iv, item, early, buffer, sent_as, late_record}
use Rattle.promises.specs.Examples as Channel
use Rattle.promises.specs.Toy.{key_of, toy}
use Rattle.promises.specs.World.{Step, start, Each, handed_in}
use Rattle.rows.specs.Ends.{is_free, is_split}
use Rattle.controller.specs.Table.{size, some, lowest, has, clashes}
use Rattle.controller.specs.Doors.{place, door_rows, new_rows}
use Rattle.controller.specs.Calls.{open_in, close_in, receive_in, table_after}
use Rattle.bay.specs.Reach.{code_in}
use Rattle.bay.specs.TableRun.{empty_table}
use Rattle.bay.specs.Peer.{Foreign, HonestCallIn}
use Rattle.bay.specs.Examples.{elsewhere, MetInRow, codes_in, reopened, HandedAgain, sealed_earlier, OldKeys}
use Rattle.bay.proofs.Fresh.{honest_in}
use Rattle.bay.proofs.Worlds.{each_map}
use Rattle.bay.proofs.EveryRun.{every_run}

-- what a run of the table computes through, above what `runs` opens
unfoldable table_open : Unit {0}
unfolding is_free is_split is_zero_receiver is_zero_sender shortest some lowest has clashes place door_rows new_rows open_in close_in receive_in table_after code_in
table_open = tt

-- ---- T4's assumptions

-- the other row's key is none of this channel's
other_key : (m : ℕ) (x : Foreign (List ℕ)) → Memᴰ x (elsewhere m) → (c : ℕ) → x.key ≢ key_of c
unfolding elsewhere key_of
other_key m x h c e =
    let z : ◌≡◌ {A = ℕ} 9 7 = ap (λ (l : List ℕ). get_or l 31 0) (ap (λ (y : Foreign (List ℕ)). y.key) (sym (Memᴰ.eq_of_singleton h)) ∙ e) in
    omega arith

granted_in : (m : ℕ) → m ≤ 1 → (open_in (empty_table size) (set_to m)).0 ≡ 0
unfolding runs table_open set_to
granted_in zero h = refl
granted_in (suc zero) h = refl
granted_in (suc (suc m)) h = absurd (omega arith)

-- a run that hands data out, in both modes, with a record of another row under another key
pub met_in_row : (m : ℕ) → m ≤ 1 → MetInRow m
unfolding Channel.opened
met_in_row m h =
    let w = start (set_to m) iv (set_to m) iv in
    let z = granted_in m h in
    let R = every_run (empty_table size) (set_to m) iv iv z (late_record m) in
    let L = Base.assumptions_met m h in
    record {
      granted = z;
      stays = R.1;
      handed = ap (handed_in (set_to m) w) R.0 ∙ L.handed;
      honest = subst (λ (l : List Step). Each (HonestCallIn (toy (set_to m)) key_of key_of (elsewhere m)) w l) (sym R.0)
          (each_map (honest_in (toy (set_to m)) key_of key_of (elsewhere m) (other_key m)) w (late_record m) L.honest);
    }

-- ---- a row that is opened again with the same keys

pub handed_again : (m : ℕ) → m ≤ 1 → HandedAgain m
unfolding runs table_open set_to iv buffer sent_as early reopened codes_in
handed_again zero h = refl
handed_again (suc zero) h = refl
handed_again (suc (suc m)) h = absurd (omega arith)

-- of that last delivery all holds but that the key is new, and it hands out what was not sealed in its channel
pub old_keys : OldKeys 1
unfolding runs set_to iv item buffer sent_as early sealed_earlier
old_keys =
    record {
      bay = record {
        alike = (refl, λ c l. refl);
        no_reuse = λ a b l k e. omega arith;
        own = (refl, λ e. refl);
        genuine = λ y. inr (record {
          one = _;
          there = Memᴰ.head refl;
          under_key = refl;
          under_number = refl;
          same_assoc = refl;
          same_text = refl;
        });
      };
      handed = refl;
      sealed = refl;
    }

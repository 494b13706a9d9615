-- Demand 2, the number: of a record that was built and sealed the number sent is found, within reach, and it passes its checks.
-- Assumes nothing.
use Prim.Native.Nat.{ℕ, ◌-◌, ◌≤◌}
use mathlib.Core.Path.{◌≡◌}
use mathlib.Core.Bool.{Bool, false}
use mathlib.Core.List.{List, ◌++◌}
use lib.ListN.{length}
use Rattle.answers.specs.Table.{first}
use Rattle.channel.specs.declared.sender.Sender.{Sender}
use Rattle.numbers.specs.Contract.{width_of}
use Rattle.record.specs.Header.{number_of, Found}
use Rattle.record.specs.Read.{place_rows}
use Rattle.record.specs.Setting.{rule_of}
use Rattle.record.specs.Shape.{mac_len}
use Rattle.record.specs.Write.{length_for}
use Rattle.record.proofs.Fronts.{clear_for, head_number}
use Rattle.record.proofs.Passes.{place_passes}
use Rattle.promises.specs.Premises.{CanBuild}
use Rattle.promises.specs.ReadBack.{built_of, wire}
use Rattle.promises.proofs.FramePasses.{wire_head}

module _ (s : Sender) (app random out sealed mac : List ℕ) (B : CanBuild s app random out)
    (hc : length sealed ≡ (built_of s app random out).text - (built_of s app random out).assoc) (hm : length mac ≡ mac_len s.setting) where
  -- the number is found: for a key with this E, in the exact range
  pub number_found : (e : ℕ) → Found s.setting e s.next → number_of s.setting e (wire s app random out sealed mac) ≡ s.next
  number_found e h =
      rw (wire_head s app random out sealed mac B hc hm)
      (head_number s.setting s.next (length_for s.setting (length app) (length random)) (clear_for s.setting app ++ (sealed ++ mac)) e h)

  -- it passes its checks, where it is not older than the width and not marked
  pub number_passes : (e : ℕ) (seen : ℕ → Bool) → Found s.setting e s.next → e - s.next ≤ width_of (rule_of s.setting) → seen s.next ≡ false
      → first (place_rows s.setting e seen (wire s app random out sealed mac)) ≡ 0
  number_passes e seen h y f =
      place_passes s.setting e seen (wire s app random out sealed mac) s.next (number_found e h) B.left y f

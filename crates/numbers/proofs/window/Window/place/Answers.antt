use Rattle.numbers.proofs.Calls.{placed_spent, placed_at}
use Rattle.numbers.proofs.Step.{below_is, above_is}
use Rattle.numbers.specs.Step.{up, down}
use mathlib.Core.Logic.{inl, inr}
use native.Mathlib.Omega.{arith}
use Rattle.numbers.proofs.window.Window.place.Goals as goal
use Rattle.numbers.proofs.window.Window.place.Goals.{then-down-up+else-not-negative, else-down-up}

pub returns-then-not-negative : goal.returns-then-not-negative
unfolding up down
returns-then-not-negative c =
    rw c.from.ensures at (placed_at _ _ _ c.judge.ensures (below_is _ _ (omega arith) (omega arith)))

pub returns-then-next-up : goal.returns-then-next-up
unfolding up down
returns-then-next-up c =
    let a = c.args in
    let h =
    above_is a.self.next a.low
    (elim c.if-down-up.branch [ then-down-up+else-not-negative w ↦ inr (omega arith) | else-down-up w ↦ inl (omega arith) ]) in
    placed_spent _ _ _ (omega arith)

pub returns : goal.returns
unfolding up down
returns c =
    rw c.from.ensures at
    (placed_at _ _ _ c.judge-2.ensures
    (above_is _ _
    (elim c.if-down-up.branch [ then-down-up+else-not-negative w ↦ inr (omega arith) | else-down-up w ↦ inl (omega arith) ])))

use Rattle.std.proofs.Common.{◌≡◌, ◌++◌, take, drop}
use Rattle.octets.proofs.parts.copy.Given as goal

-- the first i bytes are copied, and the others are as they were
abbrev pub invariant-loop-i : goal.invariant-loop-i
invariant-loop-i l = l.to ≡ take l.i l.src ++ drop l.i l.initial.to

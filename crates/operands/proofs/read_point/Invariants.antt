use Rattle.std.specs.Prelude.{◌≡◌}
use Rattle.operands.specs.Prelude.{take}
use Rattle.rules.specs.Operands.{point}
use Rattle.operands.proofs.read_point.Given as goal

-- The bytes before are read
abbrev pub invariant-loop-i : goal.invariant-loop-i
invariant-loop-i l = l.p ≡ point l.three (take l.i l.bytes)

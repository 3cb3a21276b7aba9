use Rattle.std.specs.Prelude.{◌≡◌}
use Rattle.rules.specs.Operands.{begun}
use Rattle.operands.proofs.Operands.{hue_after}
use Rattle.operands.proofs.hue_of.Given as goal

-- The tuples of i bytes are gathered
abbrev pub invariant-loop-i : goal.invariant-loop-i
invariant-loop-i l = l.hue ≡ hue_after l.i (begun l.o)

use Rattle.std.proofs.Common.{arith}
use Rattle.rules.specs.Increments.{negated}
use Rattle.operands.proofs.negate.Goals as goal

pub returns : goal.returns
unfolding negated
returns c = omega arith

use Rattle.rules.specs.Operands.{begun}
use Rattle.operands.proofs.point_of.Goals as goal

pub returns : goal.returns
unfolding begun
returns c = c.read_point.ensures

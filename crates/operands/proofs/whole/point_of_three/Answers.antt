use Rattle.operands.proofs.WholeLaws.{point_is}
use Rattle.operands.proofs.whole.point_of_three.Goals as goal

pub returns : goal.returns
returns c = λ b0 b1 b2 h0 h1 h2 e. point_is c.args.w b0 b1 b2 h0 h1 h2 e _ _ c.gather.ensures c.gather-2.ensures

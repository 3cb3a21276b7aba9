use Rattle.std.proofs.Common.{sym, ◌∙◌}
use Rattle.moves.proofs.movers.advance.Goals as goal

pub returns : goal.returns
returns c =
    c.aligned.ensures ∙ sym (c.advanced.ensures.0 c.args.pen.point c.args.pen.operand)

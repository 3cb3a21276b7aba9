use Rattle.line_runs.proofs.CharacterLaws.{pen_moved, pen_stays}
use Rattle.text_runs.proofs.pen_of.Goals as goal

pub returns-then-hand : goal.returns-then-hand
returns-then-hand c =
    pen_moved _ _ c.args.pen _ c.if-hand.true c.aligned.ensures

pub returns-else-hand : goal.returns-else-hand
returns-else-hand c =
    pen_stays _ c.args.hand.text _ c.if-hand.false

use Rattle.turn_runs.proofs.DrewLaws.{tip_moved, tip_still}
use Rattle.turn_runs.proofs.drawn.tip_after.Goals as goal

pub returns-then-count-eq0 : goal.returns-then-count-eq0
returns-then-count-eq0 c =
    rw c.if-count-eq0.true

pub returns-then-moved : goal.returns-then-moved
returns-then-moved c =
    tip_moved _ _ _ _ c.if-count-eq0.false c.if-moved.true

pub returns : goal.returns
returns c =
    tip_still _ _ _ _ c.if-count-eq0.false c.if-moved.false

use Rattle.ranges.specs.Prelude.{refl, le-leb, lt-leb}
use Rattle.rules.specs.Ranges.{vertices_fit}
use Rattle.ranges.proofs.RangeLaws.{and_first, and_second}
use Rattle.ranges.proofs.drawing_state.vertices_fit.Goals as goal

pub returns-then-vertices-ge1 : goal.returns-then-vertices-ge1
unfolding vertices_fit
returns-then-vertices-ge1 c = and_second refl (le-leb _ _ c.if-vertices-ge1.true) refl

pub returns-else-vertices-ge1 : goal.returns-else-vertices-ge1
unfolding vertices_fit
returns-else-vertices-ge1 c = and_first _ refl (lt-leb _ _ c.if-vertices-ge1.false)

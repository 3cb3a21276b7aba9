use Rattle.ranges.specs.Prelude.{refl, le-leb, lt-leb}
use Rattle.ranges.proofs.RangeLaws.{and_first, and_second}
use Rattle.ranges.proofs.drawing_state.within.Goals as goal

pub returns-then-low-n : goal.returns-then-low-n
returns-then-low-n c = and_second refl (le-leb _ _ c.if-low-n.true) refl

pub returns-else-low-n : goal.returns-else-low-n
returns-else-low-n c = and_first _ refl (lt-leb _ _ c.if-low-n.false)

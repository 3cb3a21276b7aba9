use Rattle.ranges.specs.Prelude.{refl, le-leb, lt-leb}
use Rattle.rules.specs.Ranges.{colour_fits}
use Rattle.ranges.proofs.RangeLaws.{and_first, and_second}
use Rattle.ranges.proofs.drawing_state.colour_fits.Goals as goal

pub returns-then-c-le15 : goal.returns-then-c-le15
unfolding colour_fits
returns-then-c-le15 c = and_second refl (le-leb _ _ c.if-c-le15.true) refl

pub returns-else-c-le15 : goal.returns-else-c-le15
unfolding colour_fits
returns-else-c-le15 c = and_first _ refl (lt-leb _ _ c.if-c-le15.false)

use Rattle.rules.specs.Ranges.{domain_fits}
use Rattle.ranges.proofs.RangeLaws.{and_first, and_second}
use Rattle.ranges.proofs.drawing_state.domain_fits.Goals as goal

pub returns-then-within : goal.returns-then-within
unfolding domain_fits
returns-then-within c = and_second c.within.ensures c.if-within.true c.within-then-within.ensures

pub returns-else-within : goal.returns-else-within
unfolding domain_fits
returns-else-within c = and_first _ c.within.ensures c.if-within.false

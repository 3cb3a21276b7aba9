use Rattle.rules.specs.Ranges.{fits}
use Rattle.ranges.proofs.RangeLaws.{and_first, and_second}
use Rattle.ranges.proofs.fits.Goals as goal

pub returns-then-waiting_fits : goal.returns-then-waiting_fits
unfolding fits
returns-then-waiting_fits c =
    and_second c.bodies_fit.ensures c.if-bodies_fit.true (and_second c.waiting_fits.ensures c.if-waiting_fits.true c.drawing_fits.ensures)

pub returns-else-waiting_fits : goal.returns-else-waiting_fits
unfolding fits
returns-else-waiting_fits c =
    and_second c.bodies_fit.ensures c.if-bodies_fit.true (and_first _ c.waiting_fits.ensures c.if-waiting_fits.false)

pub returns-else-bodies_fit : goal.returns-else-bodies_fit
unfolding fits
returns-else-bodies_fit c = and_first _ c.bodies_fit.ensures c.if-bodies_fit.false

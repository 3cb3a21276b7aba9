use Rattle.ranges.specs.Prelude.{le-leb, lt-leb}
use Rattle.rules.specs.Ranges.{bodies_fit}
use Rattle.ranges.proofs.stack.bodies_fit.Goals as goal

pub returns-then-bodies-le-MOST_DEPTH : goal.returns-then-bodies-le-MOST_DEPTH
unfolding bodies_fit
returns-then-bodies-le-MOST_DEPTH c =
    simp (le-leb _ _ c.if-bodies-le-MOST_DEPTH.true) c.places_fit.ensures

pub returns-else-bodies-le-MOST_DEPTH : goal.returns-else-bodies-le-MOST_DEPTH
unfolding bodies_fit
returns-else-bodies-le-MOST_DEPTH c =
    simp (lt-leb _ _ c.if-bodies-le-MOST_DEPTH.false)

use borrow.Author.Tests.{le-leb, lt-leb}
use Rattle.rules.specs.Ranges.{name_fits}
use Rattle.ranges.proofs.waiting.name_fits.Goals as goal

pub returns-then-d-ge32 : goal.returns-then-d-ge32
unfolding name_fits
returns-then-d-ge32 c =
    simp (le-leb _ _ c.if-d-ge32.true)

pub returns-else-d-ge32 : goal.returns-else-d-ge32
unfolding name_fits
returns-else-d-ge32 c =
    simp (lt-leb _ _ c.if-d-ge32.false)

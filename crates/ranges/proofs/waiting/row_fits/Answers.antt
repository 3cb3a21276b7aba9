use borrow.Author.Tests.{le-leb, lt-leb}
use Rattle.rules.specs.Ranges.{row_fits}
use Rattle.ranges.proofs.waiting.row_fits.Goals as goal

pub returns-then-row-ge64 : goal.returns-then-row-ge64
unfolding row_fits
returns-then-row-ge64 c =
    simp (le-leb _ _ c.if-row-ge64.true)

pub returns-else-row-ge64 : goal.returns-else-row-ge64
unfolding row_fits
returns-else-row-ge64 c =
    simp (lt-leb _ _ c.if-row-ge64.false)

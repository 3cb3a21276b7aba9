use borrow.Author.Tests.{le-leb, lt-leb}
use Rattle.rules.specs.Store.{good_count}
use Rattle.store.proofs.cells.good_count.Goals as goal

pub returns-then-count-ge1 : goal.returns-then-count-ge1
unfolding good_count
returns-then-count-ge1 c = simp (le-leb _ _ c.if-count-ge1.true)

pub returns-else-count-ge1 : goal.returns-else-count-ge1
unfolding good_count
returns-else-count-ge1 c = simp (lt-leb _ _ c.if-count-ge1.false)

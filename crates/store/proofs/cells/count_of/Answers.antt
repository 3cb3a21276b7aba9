use Rattle.rules.specs.Store.{count_of}
use borrow.Author.Rules.{rules}
use Rattle.store.proofs.cells.count_of.Goals as goal

pub returns : goal.returns
unfolding count_of
returns c = search rules

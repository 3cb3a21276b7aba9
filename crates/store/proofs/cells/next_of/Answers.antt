use Rattle.rules.specs.Store.{next_of}
use borrow.Author.Rules.{rules}
use Rattle.store.proofs.cells.next_of.Goals as goal

pub returns : goal.returns
unfolding next_of
returns c = search rules

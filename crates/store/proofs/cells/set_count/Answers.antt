use Rattle.rules.specs.Store.{set_count}
use borrow.Author.Rules.{rules}
use Rattle.store.proofs.cells.set_count.Goals as goal

pub returns : goal.returns
unfolding set_count
returns c = search rules

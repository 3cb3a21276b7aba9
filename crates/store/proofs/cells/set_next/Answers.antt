use Rattle.rules.specs.Store.{set_next}
use borrow.Author.Rules.{rules}
use Rattle.store.proofs.cells.set_next.Goals as goal

pub returns : goal.returns
unfolding set_next
returns c = search rules

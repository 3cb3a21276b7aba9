use Rattle.rules.specs.Store.{set_first}
use borrow.Author.Rules.{rules}
use Rattle.store.proofs.names.set_first.Goals as goal

pub returns : goal.returns
unfolding set_first
returns c = search rules

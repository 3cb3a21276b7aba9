use Rattle.rules.specs.Store.{first_of}
use borrow.Author.Rules.{rules}
use Rattle.store.proofs.names.first_of.Goals as goal

pub returns : goal.returns
unfolding first_of
returns c = search rules

use Rattle.rules.specs.Store.{set_body_byte}
use borrow.Author.Rules.{rules}
use Rattle.store.proofs.cells.set_body_byte.Goals as goal

pub returns : goal.returns
unfolding set_body_byte
returns c = search rules

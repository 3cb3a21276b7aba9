use Rattle.rules.specs.Store.{body_byte}
use borrow.Author.Rules.{rules}
use Rattle.store.proofs.cells.body_byte.Goals as goal

pub returns : goal.returns
unfolding body_byte
returns c = search rules

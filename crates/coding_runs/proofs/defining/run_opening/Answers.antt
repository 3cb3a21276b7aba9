use Rattle.store.specs.Each.{none}
use Rattle.coding_runs.proofs.DefinitionLaws.{opening_idle}
use Rattle.coding_runs.proofs.defining.run_opening.Goals as goal

pub returns-then-escape_then-clause-ran : goal.returns-then-escape_then-clause-ran
returns-then-escape_then-clause-ran c =
    let read = c.escape_then.ensures.0 c.if-escape_then.true in
    λ s f st. opening_idle _ _ s f st read.1 read.2

pub returns-clause-ran : goal.returns-clause-ran
returns-clause-ran c = λ s f st. none

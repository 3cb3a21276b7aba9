use Rattle.turn_runs.specs.Prelude.{eqb-true}
use Rattle.std.proofs.Common.{rules}
use Rattle.turn_runs.proofs.drawn.none_begun.Goals as goal

pub returns : goal.returns
returns c = let operand = c.well_formed.0 in
    record { none = (λ h. eqb-true _ _ h); eight = search (rules, operand) }

use Rattle.steps.specs.Prelude.{◌∙◌}
use Rattle.steps.proofs.StepLaws.{not_drawn, drawn_refused}
use Rattle.steps.proofs.draw.Goals as goal

pub returns-in_err-written-clause-drawn : goal.returns-in_err-written-clause-drawn
returns-in_err-written-clause-drawn c =
    drawn_refused _ _ _ _ _ c.from_residual.ensures.0 ∙ not_drawn _ _ _ _ _ _ _ (rw c.pen_of.ensures at c.in_err-written.ensures)

use Rattle.std.proofs.Common.{arith, refl, ◌∙◌}
use Rattle.figures.proofs.Carrying.{carried_refused, then_refused, then_drawn}
use Rattle.commands.proofs.ClosingLaws.{close_place}
use Rattle.drawing.proofs.AfterLaws.{after_draws}
use Rattle.drawing.proofs.close_and.Goals as goal

pub returns-in_err-closed : goal.returns-in_err-closed
returns-in_err-closed c =
    carried_refused _ _ _ _ c.from_residual.ensures.0 ∙ then_refused _ _ _ _ _ _ c.in_err-closed.ensures refl

pub after_closing-requires : goal.after_closing-requires
after_closing-requires c =
    omega (arith, c.requires, close_place _ _ _ _ c.in_ok-closed.ensures)

pub returns : goal.returns
returns c =
    then_drawn _ _ _ _ _ _ _ c.in_ok-closed.ensures refl (omega (arith, c.requires)) (after_draws _ _) c.after_closing.ensures

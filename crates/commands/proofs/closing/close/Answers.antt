use Rattle.std.proofs.Common.{arith, refl, ◌∙◌}
use Rattle.figures.proofs.Carrying.{none_carried, carried_refused}
use Rattle.commands.proofs.ClosingLaws.{complete_place, complete_length, close_refused, close_drawn}
use Rattle.commands.proofs.closing.close.Goals as goal

pub returns-in_err-at : goal.returns-in_err-at
returns-in_err-at c =
    carried_refused _ _ _ _ c.from_residual.ensures.0 ∙ close_refused _ _ _ _ _ c.requires.0 c.in_err-at.ensures refl

pub finish-at-requires : goal.finish-at-requires
finish-at-requires c =
    omega (arith, c.requires, complete_place _ _ _ _ _ c.in_ok-at.ensures, complete_length _ _ _ _ _ (omega (arith, c.requires)) c.in_ok-at.ensures)

pub returns : goal.returns
returns c =
    rw c.new_command-drawing.ensures
    (none_carried _ _ _ _ refl
    ∙ close_drawn _ _ _ _ _ c.requires.0 c.in_ok-at.ensures _ _ (omega (arith, c.requires)) refl c.role_due-role.ensures c.finish-at.ensures)

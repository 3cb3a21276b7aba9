use Rattle.std.proofs.Common.{refl, ◌∙◌, arith}
use Rattle.figures.proofs.Carrying.{none_carried, carried_refused}
use Rattle.data_bytes.proofs.OperandLaws.{begun_refused, begun_drawn}
use Rattle.data_bytes.proofs.apply_begun.Goals as goal

pub returns-in_err-at : goal.returns-in_err-at
returns-in_err-at c =
    carried_refused _ _ _ _ c.from_residual.ensures.0 ∙ begun_refused _ _ _ _ _ _ c.role_due-role.ensures c.in_err-at.ensures refl

pub returns : goal.returns
returns c =
    rw c.next_operand.ensures
    (begun_drawn _ _ _ _ _ _ c.role_due-role.ensures c.in_ok-at.ensures _ (omega (arith, c.requires)) refl (none_carried _ _ _ _ refl))

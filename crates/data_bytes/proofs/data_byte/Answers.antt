use Rattle.std.proofs.Common.{sym, ap, ◌∙◌}
use Rattle.rules.specs.Drawing.{Outcome}
use Rattle.figures.specs.Carried.{carry}
use Rattle.figures.proofs.Carrying.{none_carried}
use Rattle.data_bytes.proofs.OperandLaws.{data_loose, data_joined, data_last, last_refused, last_drawn}
use Rattle.data_bytes.proofs.data_byte.Goals as goal

pub returns-then-bytes_due-eq0 : goal.returns-then-bytes_due-eq0
returns-then-bytes_due-eq0 c =
    c.loose_byte.ensures
    ∙ ap (λ (o : Outcome). carry o c.args.drawing.now c.args.at c.args.out.now)
    (sym (data_loose c.args.row c.args.byte c.args.drawing.now _ _ c.role_due-role.ensures c.length_of-bytes_due.ensures c.if-bytes_due-eq0.true))

pub returns-then-operand-bytes_due : goal.returns-then-operand-bytes_due
returns-then-operand-bytes_due c =
    rw c.join_byte.ensures
    (none_carried _ _ _ _ (data_joined _ _ _ _ _ c.role_due-role.ensures c.length_of-bytes_due.ensures c.if-bytes_due-eq0.false (rw c.join_byte.ensures at c.if-operand-bytes_due.true)))

pub returns-in-Ok : goal.returns-in-Ok
returns-in-Ok c =
    let last = data_last _ _ _ _ _ c.role_due-role.ensures c.length_of-bytes_due.ensures c.if-bytes_due-eq0.false (rw c.join_byte.ensures at c.if-operand-bytes_due.false) in
    last_drawn c.args.row _ c.args.drawing.now _ c.args.at _ _ _ (rw c.join_byte.ensures at (c.in-Ok.ensures {u = tt})) last

pub returns-in-Err : goal.returns-in-Err
returns-in-Err c =
    let last = data_last _ _ _ _ _ c.role_due-role.ensures c.length_of-bytes_due.ensures c.if-bytes_due-eq0.false (rw c.join_byte.ensures at c.if-operand-bytes_due.false) in
    last_refused c.args.row _ c.args.drawing.now _ _ _ _ c.in-Err.field-0 (rw c.join_byte.ensures at (c.in-Err.ensures {u = tt})) last

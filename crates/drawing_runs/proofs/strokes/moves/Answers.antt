use Rattle.std.specs.Prelude.{◌≤◌}
use Rattle.drawing_runs.specs.Prelude.{sym, ◌∙◌, false, arith, length}
use Rattle.rules.specs.Operands.{point, all_data}
use Rattle.operands.proofs.WholeLaws.{three_told}
use Rattle.drawing_runs.proofs.StrokeLaws.{moves_none, moves_on, rest_fits}
use Rattle.drawing_runs.proofs.strokes.moves.Goals as goal

pub loop-rest-init : goal.loop-rest-init
loop-rest-init c = moves_none _ _

pub loop-rest-preserved : goal.loop-rest-preserved
loop-rest-preserved c =
    let rest = c.loop-rest.rest.now in
    let fits = rest_fits _ _ _ c.loop-rest.invariant (λ i. (c.type_inv.bytes i).fits) in
    let some : 3 ≤ length rest = omega arith in
    let told = three_told rest 0 some fits all_data _ _ c.are_data.ensures c.three_bytes-w.ensures in
    let read = three_told rest 0 some fits (point false) _ _ c.point_of_three-point.ensures c.three_bytes-w.ensures in
    moves_on _ _ _ _ c.loop-rest.invariant some (sym told ∙ c.if-not-are_data.false) read

pub returns : goal.returns
returns c = record { ran = c.loop-rest.invariant.moves; most = omega arith }

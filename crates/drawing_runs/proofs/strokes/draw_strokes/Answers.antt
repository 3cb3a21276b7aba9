use Rattle.drawing_runs.specs.Prelude.{refl, arith}
use Rattle.drawing_runs.specs.Run.{none}
use Rattle.figures.specs.Tracing.{pen_at}
use Rattle.drawing_runs.proofs.StrokeLaws.{point_set_row, line_row}
use Rattle.drawing_runs.proofs.strokes.draw_strokes.Goals as goal

pub returns-then-command-eq-POINT_SET-clause-ran : goal.returns-then-command-eq-POINT_SET-clause-ran
returns-then-command-eq-POINT_SET-clause-ran c t m =
    let ready = c.is_ready.ensures c.if-is_ready.true 0 (point_set_row c.if-command-eq-POINT_SET.true) c.args.tip.point t in
    c.moves-moved.ensures.ran (pen_at c.args.tip.point t c.args.tip.operand) c.args.command c.args.look m c.args.at c.args.out.now ready (omega (arith, c.if-out-at-ge-ROOM_FOR_STEP.true, c.requires))

pub returns-then-command-eq-LINE-clause-ran : goal.returns-then-command-eq-LINE-clause-ran
returns-then-command-eq-LINE-clause-ran c t m =
    let ready = c.is_ready.ensures c.if-is_ready.true 2 (line_row c.if-command-eq-LINE.true) c.args.tip.point t in
    (c.lines.ensures.ran (pen_at c.args.tip.point t c.args.tip.operand) c.args.command c.args.look m ready refl c.head_of-head.ensures refl).1

pub returns-else-command-eq-LINE-clause-ran : goal.returns-else-command-eq-LINE-clause-ran
returns-else-command-eq-LINE-clause-ran c t m = none

pub returns-else-out-at-ge-ROOM_FOR_STEP-clause-ran : goal.returns-else-out-at-ge-ROOM_FOR_STEP-clause-ran
returns-else-out-at-ge-ROOM_FOR_STEP-clause-ran c t m = none

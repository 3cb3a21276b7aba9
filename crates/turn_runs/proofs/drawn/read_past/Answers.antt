use Rattle.turn_runs.proofs.ProgressLaws.{depth_body}
use Rattle.turn_runs.proofs.drawn.read_past.Goals as goal

pub overflow_cast-cursors : goal.overflow_cast-cursors
overflow_cast-cursors c =
    record { fits = (c.requires.1 _ (depth_body c.args.depth c.if-depth-ne0.true)).2 }

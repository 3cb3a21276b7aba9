use Rattle.drawing_runs.specs.Prelude.{length}
use Rattle.drawing_runs.proofs.StrokeLaws.{MovesSoFar}
use Rattle.drawing_runs.proofs.strokes.moves.Given as goal

abbrev pub invariant-loop-rest : goal.invariant-loop-rest
invariant-loop-rest l = MovesSoFar l.bytes l.rest l.point

abbrev pub decreases-loop-rest : goal.decreases-loop-rest
decreases-loop-rest l = length l.rest

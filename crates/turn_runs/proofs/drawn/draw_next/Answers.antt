use Rattle.turn_runs.specs.Prelude.{arith, ap}
use Rattle.drawing_runs.specs.Run.{none}
use Rattle.turn_runs.proofs.drawn.draw_next.Goals as goal

pub returns-then-is_empty : goal.returns-then-is_empty
returns-then-is_empty c = record { ran = (λ m. rw c.none_drawn.ensures none); most = omega (arith, ap (λ r. r.count) c.none_drawn.ensures) }

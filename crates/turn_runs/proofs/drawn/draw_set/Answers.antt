use Rattle.drawing_runs.specs.Run.{none}
use Rattle.turn_runs.specs.Prelude.{arith, ap}
use Rattle.turn_runs.proofs.drawn.draw_set.Goals as goal

pub returns-in-Pdi : goal.returns-in-Pdi
returns-in-Pdi c = record { ran = λ m. rw c.in-Pdi.is (c.draw_pdi.ensures.ran m); most = c.draw_pdi.ensures.most }

pub returns-in-Characters : goal.returns-in-Characters
returns-in-Characters c = record { ran = λ m. rw c.in-Characters.is (c.draw_text.ensures.ran m); most = c.draw_text.ensures.most }

pub returns-in-Macro : goal.returns-in-Macro
returns-in-Macro c = record { ran = λ m. rw c.none_drawn.ensures none; most = omega (arith, ap (λ r. r.count) c.none_drawn.ensures) }

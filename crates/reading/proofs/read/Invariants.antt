use Rattle.std.specs.Prelude.{◌-◌}
use Rattle.pens.specs.Tips.{pen_of}
use Rattle.figures.specs.Carried.{drawing_of}
use Rattle.steps.specs.View.{state_at}
use Rattle.reading.proofs.Whole.{Kept}
use Rattle.reading.proofs.read.Given as goal

-- The whole reading is what was read so far, and then the reading from here
abbrev pub invariant-loop-progress : goal.invariant-loop-progress
invariant-loop-progress l =
    Kept (state_at l.budget l.initial.reached.progress l.initial.cursors l.initial.firsts (drawing_of (pen_of l.initial.text l.initial.reached.tip) l.initial.reached.command l.initial.reached.look l.initial.map) l.initial.store) l.piece l.initial.out
    (state_at l.budget l.reached.progress l.cursors l.firsts (drawing_of (pen_of l.text l.reached.tip) l.reached.command l.reached.look l.map) l.store)
    l.reached.progress.at l.reached.progress.written l.out

abbrev pub decreases-loop-progress : goal.decreases-loop-progress
decreases-loop-progress l = l.budget - l.reached.progress.steps

use Rattle.std.proofs.Common.{refl}
use Rattle.rules.specs.Drawing.{finish}
use Rattle.figures.specs.Tracing.{Inks}
use Rattle.figures.proofs.Carrying.{none_carried, puts_carried}
use Rattle.commands.proofs.closing.finish.Goals as goal

pub returns-in-Foreground : goal.returns-in-Foreground
unfolding finish
returns-in-Foreground c = none_carried _ _ _ _ (rw c.in-Foreground.is)

pub returns-in-TextFirst : goal.returns-in-TextFirst
unfolding finish
returns-in-TextFirst c = none_carried _ _ _ _ (rw (c.in-TextFirst.is, c.close_text-drawing.ensures))

pub returns-in-TextSecond : goal.returns-in-TextSecond
unfolding finish
returns-in-TextSecond c = none_carried _ _ _ _ (rw (c.in-TextSecond.is, c.close_text-drawing-in-TextSecond.ensures))

pub returns-in-TextField : goal.returns-in-TextField
unfolding finish
returns-in-TextField c = none_carried _ _ _ _ (rw (c.in-TextField.is, c.close_text-drawing-in-TextField.ensures))

pub returns-in-TextMore : goal.returns-in-TextMore
unfolding finish
returns-in-TextMore c = none_carried _ _ _ _ (rw (c.in-TextMore.is, c.close_text-drawing-in-TextMore.ensures))

pub returns-in_default : goal.returns-in_default
returns-in_default c =
    let d = c.args.drawing.now in
    let k : Inks _ _ d.look = record { head = c.head_of-ink.ensures; size = refl } in
    puts_carried _ _ _ _ _ _ (rw c.move_if.ensures (c.finish-done.ensures.drawn d.look d.pen.text d.pen.operand d.map)) (c.put_figure.ensures.put d.look k)

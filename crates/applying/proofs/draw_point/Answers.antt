use Rattle.std.proofs.Common.{refl, sym, ◌∙◌}
use Rattle.figures.specs.Tracing.{Inks}
use Rattle.figures.proofs.Carrying.{puts_carried}
use Rattle.figures.proofs.TraceLaws.{point_refused}
use Rattle.applying.proofs.draw_point.Goals as goal

pub returns-then-not-is_point : goal.returns-then-not-is_point
returns-then-not-is_point c =
    λ bs e. point_refused _ _ bs _ _ _ c.requires.0 (sym c.is_point.ensures ∙ c.if-not-is_point.true)

pub returns : goal.returns
returns c =
    let d = c.args.drawing.now in
    let k : Inks _ _ d.look = record { head = c.head_of-ink.ensures; size = refl } in
    λ bs e. rw c.follow-drawing.ensures
    (puts_carried _ _ _ _ _ _ (c.trace-traced.ensures.drawn d.look _ bs c.target-aimed.ensures.0 c.target-aimed.ensures.1 e d.pen.text d.pen.operand d.map) (c.put_figure-at.ensures.put d.look k))

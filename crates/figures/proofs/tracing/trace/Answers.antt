use Rattle.std.proofs.Common.{◌∙◌, arith}
use Rattle.figures.proofs.TraceLaws.{trace_move, trace_start, trace_middle, trace_arc, trace_edge, trace_stroke, edge_room}
use Rattle.figures.proofs.TraceLaws.{stroke_point, stroke_line, stroke_rectangle, stroke_none}
use Rattle.figures.proofs.tracing.trace.Goals as goal

pub overflow_add-traced : goal.overflow_add-traced
overflow_add-traced c = omega (arith, edge_room _ _ c.in-Edge.is c.requires)

pub returns-in-MoveTo-clause-drawn : goal.returns-in-MoveTo-clause-drawn
returns-in-MoveTo-clause-drawn c = λ l v bs a b e t o m.
    trace_move _ _ bs v _ _ _ t o _ l m a b e _ _ c.in-MoveTo.is c.span.ensures

pub returns-in-Start-clause-drawn : goal.returns-in-Start-clause-drawn
returns-in-Start-clause-drawn c = λ l v bs a b e t o m.
    trace_start _ _ bs v _ _ _ t o _ l m a b e _ _ c.in-Start.is c.span.ensures

pub returns-in-Middle-clause-drawn : goal.returns-in-Middle-clause-drawn
returns-in-Middle-clause-drawn c = λ l v bs a b e t o m.
    trace_middle _ _ bs v _ _ _ t o _ l m a b e _ _ c.in-Middle.is c.span.ensures

pub returns-in-ArcEnd-clause-drawn : goal.returns-in-ArcEnd-clause-drawn
returns-in-ArcEnd-clause-drawn c = λ l v bs a b e t o m.
    trace_arc _ _ bs v _ _ _ t o _ l m a b e 0 _ c.in-ArcEnd.is c.arc-traced.ensures

pub returns-in-Edge-clause-drawn : goal.returns-in-Edge-clause-drawn
returns-in-Edge-clause-drawn c = λ l v bs a b e t o m.
    trace_edge _ _ bs v _ _ _ t o _ l m a b e _ _ c.in-Edge.is c.flags-flags.ensures c.span-traced.ensures c.requires

pub returns-in-1-clause-drawn : goal.returns-in-1-clause-drawn
returns-in-1-clause-drawn c = λ l v bs a b e t o m.
    trace_stroke _ _ bs v _ _ _ t o _ l m a b e c.in_default.not-MoveTo c.in_default.not-Start c.in_default.not-Middle c.in_default.not-ArcEnd c.in_default.not-Edge c.requires
    ∙ stroke_point _ _ _ _ _ t o _ l m _ c.flags-flags.ensures _ c.in-1.is c.span-traced-in-1.ensures

pub returns-in-2-clause-drawn : goal.returns-in-2-clause-drawn
returns-in-2-clause-drawn c = λ l v bs a b e t o m.
    trace_stroke _ _ bs v _ _ _ t o _ l m a b e c.in_default.not-MoveTo c.in_default.not-Start c.in_default.not-Middle c.in_default.not-ArcEnd c.in_default.not-Edge c.requires
    ∙ stroke_line _ _ _ _ _ t o _ l m _ c.flags-flags.ensures _ c.in-2.is c.span-traced-in-2.ensures

pub returns-in-4-clause-drawn : goal.returns-in-4-clause-drawn
returns-in-4-clause-drawn c = λ l v bs a b e t o m.
    trace_stroke _ _ bs v _ _ _ t o _ l m a b e c.in_default.not-MoveTo c.in_default.not-Start c.in_default.not-Middle c.in_default.not-ArcEnd c.in_default.not-Edge c.requires
    ∙ stroke_rectangle _ _ _ _ _ t o _ l m _ c.flags-flags.ensures _ c.in-4.is c.span-traced-in-4.ensures

pub returns-in_default-kind-clause-drawn : goal.returns-in_default-kind-clause-drawn
returns-in_default-kind-clause-drawn c = λ l v bs a b e t o m.
    trace_stroke _ _ bs v _ _ _ t o _ l m a b e c.in_default.not-MoveTo c.in_default.not-Start c.in_default.not-Middle c.in_default.not-ArcEnd c.in_default.not-Edge c.requires
    ∙ stroke_none _ _ _ _ _ t o _ l m _ c.flags-flags.ensures _ (λ h. omega arith) (λ h. omega arith) (λ h. omega arith) c.span.ensures

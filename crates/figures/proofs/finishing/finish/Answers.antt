use Rattle.std.proofs.Common.{sym, ◌∙◌}
use Rattle.std.proofs.Common.{inl, inr}
use Rattle.figures.proofs.FinishLaws.{finish_arc, finish_edge, finish_edgeless, finish_plain}
use Rattle.figures.proofs.finishing.finish.Goals as goal

pub returns-in-ArcEnd-clause-drawn : goal.returns-in-ArcEnd-clause-drawn
returns-in-ArcEnd-clause-drawn c = λ l t o m. finish_arc _ _ _ t o _ l m _ c.in-ArcEnd.is c.arc.ensures

pub returns-then-command-gt1-clause-drawn : goal.returns-then-command-gt1-clause-drawn
returns-then-command-gt1-clause-drawn c = λ l t o m.
    finish_edge _ _ _ t o _ l m _ (sym c.is_polygon.ensures ∙ c.if-is_polygon.true) _ c.flags.ensures c.span-finished.ensures c.if-command-gt1.true

pub returns-else-is_polygon-clause-drawn : goal.returns-else-is_polygon-clause-drawn
returns-else-is_polygon-clause-drawn c = λ l t o m. elim c.else-is_polygon.either [
  | inl w ↦ finish_edgeless _ _ _ t o _ l m _ (sym c.is_polygon.ensures ∙ w.0) c.span.ensures w.1
  | inr w ↦ finish_plain _ _ _ t o _ l m _ c.in_default.not-ArcEnd c.requires (sym c.is_polygon.ensures ∙ w) c.span.ensures
]

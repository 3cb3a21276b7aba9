use Rattle.std.proofs.Common.{sym, ◌∙◌}
use Rattle.outlines.proofs.ByteLaws.{byte_refused, byte_drawn}
use Rattle.outlines.proofs.draw_codes.Goals as goal

pub returns-then-overflows : goal.returns-then-overflows
returns-then-overflows c =
    byte_refused _ _ _ _ _ _ _ c.trail_of-trail.ensures c.requires.0 (sym c.overflows.ensures ∙ c.if-overflows.true)

pub returns : goal.returns
returns c =
    byte_drawn _ _ _ _ _ _ _ _ _ _ _ _ c.trail_of-trail.ensures c.requires.1 c.inks_of-inks.ensures (sym c.overflows.ensures ∙ c.if-overflows.false) c.apply_codes.ensures c.move_if.ensures c.with_trail-drawing.ensures

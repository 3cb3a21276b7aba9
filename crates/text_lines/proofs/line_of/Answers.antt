use Rattle.std.proofs.Common.{rules}
use Rattle.text_lines.proofs.LineLaws.{straight}
use Rattle.text_lines.proofs.line_of.Goals as goal

pub returns : goal.returns
returns c =
    straight c.args.text _ _ _ _ _ _ _ _ c.field_box-bounds.ensures (c.is_held.ensures c.if-not-is_held.false) (c.is_held-else-not-is_held.ensures c.if-not-is_held-2.false) c.reach_in-reach.ensures c.spacing_quarters.ensures c.stride-length.ensures.0 c.cursor_along-from.ensures c.forwards.ensures c.strides_within.ensures (search rules) c.step_of.ensures

use Rattle.std.proofs.Common.{ap, ◌∙◌}
use Rattle.rules.specs.Operands.{displaced, displaced_out}
use Rattle.outlines.proofs.TrailLaws.{moves_on}
use Rattle.outlines.proofs.move_on.Goals as goal

pub returns : goal.returns
returns c =
    let k = c.args.coded.now in
    let p = k.trail.point in
    let v = c.displacement.ensures in
    moves_on c.args.outline c.args.inks c.args.code k _ _ _ _ _ _ _ _ c.is_drawn-drawn.ensures c.head_for-head.ensures
    (c.displace-aimed.ensures.1 ∙ ap (displaced_out p) v) (c.displace-aimed.ensures.0 ∙ ap (displaced p) v) c.vertices_after-coded.ensures c.put_move-coded.ensures.put c.put_move-coded.ensures.most

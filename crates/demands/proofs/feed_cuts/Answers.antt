use Rattle.std.proofs.Common.{◌≡◌, ◌<◌, rules}
use Rattle.demands.specs.Prelude.{get_or, max, length, min, arith}
use Rattle.std.specs.Prelude.{◌+◌}
use Rattle.demands.proofs.CutLaws.{going_first, going_more, going_end}
use Rattle.demands.proofs.feed_cuts.Goals as goal

pub loop-i-init : goal.loop-i-init
loop-i-init c = going_first _ _ _ _ _

pub loop-i-preserved : goal.loop-i-preserved
loop-i-preserved c =
    let further : c.unwrap_or-further.result ≡ get_or c.args.lengths.now c.loop-i.i 0 = search rules in
    let room : c.unwrap_or-room.result ≡ get_or c.args.rooms.now c.loop-i.i 0 = search rules in
    let next : c.min-lent.result ≡ min (c.loop-i.lent + get_or c.args.lengths.now c.loop-i.i 0) (length c.args.page.now) = omega arith in
    let edge : c.min-edge.result ≡ min (c.loop-i.fed.written + get_or c.args.rooms.now c.loop-i.i 0) (length c.loop-i.out) = omega arith in
    let more : c.loop-i.i < max (length c.args.lengths.now) 1 = omega arith in
    going_more _ _ _ _ _ c.loop-i.i c.loop-i.lent _ _ _ _ c.loop-i.invariant more next edge c.feed_more-fed.ensures

pub returns : goal.returns
returns c =
    let both = going_end _ _ _ _ _ c.loop-i.i c.loop-i.lent _ c.loop-i.invariant (omega arith) in
    record { out_after = both.0; undivided = both.1 }

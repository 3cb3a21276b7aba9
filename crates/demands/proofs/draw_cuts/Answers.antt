use Rattle.rules.specs.Calls.{with_budget}
use Rattle.demands.proofs.DrawLaws.{drawn}
use Rattle.demands.proofs.draw_cuts.Goals as goal

pub returns : goal.returns
returns c =
    let both = drawn (with_budget c.args.budget) c.args.store.now c.args.page.now c.args.lengths.now c.args.rooms.now c.args.out.now _ c.open-opened.result _ _
    c.open-opened.ensures c.feed_cuts-fed.ensures.out_after c.feed_cuts-fed.ensures.undivided c.end_done.ensures in record { out_after = both.0; draws = both.1 }

use Rattle.demands.specs.Prelude.{arith}
use Rattle.demands.proofs.CutLaws.{fed_counts, fed_more_lem}
use Rattle.demands.proofs.feed_more.Goals as goal

pub overflow_add-result : goal.overflow_add-result
overflow_add-result c =
    let k = fed_counts c.args.before c.args.store.now c.args.page.now c.args.out.now c.args.lent c.args.edge c.feed_from-fed.result _ _ c.feed_from-fed.ensures c.requires.consumed_le_lent.0 c.requires.written_le_edge.0 c.requires.written_le_edge.1 in
    omega arith

pub overflow_add-result-2 : goal.overflow_add-result-2
overflow_add-result-2 c =
    let k = fed_counts c.args.before c.args.store.now c.args.page.now c.args.out.now c.args.lent c.args.edge c.feed_from-fed.result _ _ c.feed_from-fed.ensures c.requires.consumed_le_lent.0 c.requires.written_le_edge.0 c.requires.written_le_edge.1 in
    omega arith

pub returns : goal.returns
returns c =
    fed_more_lem c.args.before c.args.store.now c.args.page.now c.args.out.now c.args.lent c.args.edge c.feed_from-fed.result _ _ c.feed_from-fed.ensures c.requires.written_le_edge.0

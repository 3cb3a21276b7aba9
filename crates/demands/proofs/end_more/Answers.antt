use Rattle.demands.specs.Prelude.{arith}
use Rattle.demands.proofs.DrawLaws.{end_counts, end_more_lem}
use Rattle.demands.proofs.end_more.Goals as goal

pub overflow_add-result : goal.overflow_add-result
overflow_add-result c =
    let k = end_counts _ c.args.out.now c.args.before.written c.end-ended.result _ c.end-ended.ensures in
    omega arith

pub returns : goal.returns
returns c =
    end_more_lem c.args.before c.args.store.now c.args.out.now c.end-ended.result _ c.end-ended.ensures

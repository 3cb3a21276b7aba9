use Rattle.demands.specs.Prelude.{◌∙◌}
use Rattle.rules.specs.Promises.{handed_of}
use Rattle.demands.specs.Pictures.{end_after}
use Rattle.demands.proofs.DrawLaws.{end_told}
use Rattle.demands.proofs.end_done.Goals as goal

pub returns-in-Done : goal.returns-in-Done
unfolding end_after
returns-in-Done c =
    c.end_more.ensures ∙ end_told (handed_of c.args.before c.args.store.now c.args.out.now) c.in-Done.is

pub returns-in-Full : goal.returns-in-Full
unfolding end_after
returns-in-Full c = end_told (handed_of c.args.before c.args.store.now c.args.out.now) c.in-Full.is

pub returns-in-Refused : goal.returns-in-Refused
unfolding end_after
returns-in-Refused c = end_told (handed_of c.args.before c.args.store.now c.args.out.now) c.in-Refused.is

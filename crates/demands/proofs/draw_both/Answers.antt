use Rattle.rules.specs.Calls.{with_budget}
use Rattle.demands.proofs.DrawLaws.{both_drawn}
use Rattle.demands.proofs.draw_both.Goals as goal

pub returns-clause-drawn_alike : goal.returns-clause-drawn_alike
returns-clause-drawn_alike c =
    both_drawn (with_budget c.args.budget) c.draw_cuts-page.ensures.draws c.draw_cuts-other.ensures.draws

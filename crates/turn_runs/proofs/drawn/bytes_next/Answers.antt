use Rattle.turn_runs.proofs.ProgressLaws.{lies_less}
use Rattle.turn_runs.proofs.drawn.bytes_next.Goals as goal

pub reach-requires : goal.reach-requires
reach-requires c =
    c.stretch_next-stretch.ensures.order

pub returns : goal.returns
returns c = record { lies = lies_less c.reach.result c.stretch_next-stretch.ensures c.reach.ensures.0 c.reach.ensures.1; few = (c.reach.ensures.2, c.reach.ensures.3) }

use Rattle.turn_runs.specs.Prelude.{arith}
use Rattle.turn_runs.proofs.ProgressLaws.{lies_piece, lies_body}
use Rattle.turn_runs.proofs.drawn.stretch_next.Goals as goal

pub returns-then-progress-eq0 : goal.returns-then-progress-eq0
returns-then-progress-eq0 c =
    lies_piece c.if-progress-eq0.true c.requires.2

pub returns : goal.returns
returns c =
    lies_body _ c.if-progress-eq0.false (omega (arith, c.requires.1, c.if-progress-eq0.false, c.told-cursors)) c.innermost.result c.innermost.ensures (omega (arith, c.innermost.type_inv)) c.stretch_of.ensures.gives c.stretch_of.ensures.within.0 c.stretch_of.ensures.within.1 c.stretch_of.ensures.place

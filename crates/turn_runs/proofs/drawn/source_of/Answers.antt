use Rattle.turn_runs.proofs.ProgressLaws.{source_piece, source_body}
use Rattle.turn_runs.proofs.drawn.source_of.Goals as goal

pub returns-then-depth-eq0 : goal.returns-then-depth-eq0
returns-then-depth-eq0 c = source_piece _ _ _ c.if-depth-eq0.true

pub returns : goal.returns
returns c = source_body _ _ _ c.if-depth-eq0.false

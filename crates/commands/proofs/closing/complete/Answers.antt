use Rattle.std.proofs.Common.{◌∙◌}
use Rattle.commands.proofs.ClosingLaws.{nothing_begun, some_begun}
use Rattle.commands.proofs.closing.complete.Goals as goal

pub returns-then-drawing-eq0 : goal.returns-then-drawing-eq0
returns-then-drawing-eq0 c = nothing_begun _ _ _ _ c.if-drawing-eq0.true

pub returns : goal.returns
returns c = c.apply_begun.ensures ∙ some_begun _ _ _ _ c.if-drawing-eq0.false

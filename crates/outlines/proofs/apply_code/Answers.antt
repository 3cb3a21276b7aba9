use Rattle.std.proofs.Common.{sym, ◌∙◌}
use Rattle.outlines.proofs.TrailLaws.{follows_altered}
use Rattle.outlines.proofs.apply_code.Goals as goal

pub returns-else-is_move : goal.returns-else-is_move
returns-else-is_move c =
    follows_altered _ _ _ _ _ _ (sym c.is_move.ensures ∙ c.if-is_move.false) c.alter.ensures

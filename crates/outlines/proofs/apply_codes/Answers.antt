use Rattle.std.proofs.Common.{arith}
use Rattle.outlines.proofs.TrailLaws.{follows_then}
use Rattle.outlines.proofs.apply_codes.Goals as goal

pub returns : goal.returns
returns c =
    follows_then _ _ _ _ _ _ _ _ _ _ (omega (arith, c.requires.1)) c.apply_code.ensures (follows_then _ _ _ _ _ _ _ _ _ _ (omega arith) c.apply_code-2.ensures c.apply_code-3.ensures)

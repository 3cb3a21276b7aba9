use Rattle.turns.proofs.TurnLaws.{after_piece, after_body}
use native.Mathlib.Omega.{arith}
use Rattle.turns.proofs.place_after.Goals as goal

pub overflow_add-result : goal.overflow_add-result
overflow_add-result c =
    omega (arith, c.requires c.if-depth-eq0.true)

pub returns-then-depth-eq0 : goal.returns-then-depth-eq0
returns-then-depth-eq0 c =
    after_piece c.args.depth c.args.at c.if-depth-eq0.true

pub returns-else-depth-eq0 : goal.returns-else-depth-eq0
returns-else-depth-eq0 c =
    after_body c.args.depth c.args.at c.if-depth-eq0.false

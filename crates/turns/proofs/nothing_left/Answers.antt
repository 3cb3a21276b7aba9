use Rattle.turns.proofs.TurnLaws.{left_of_piece, left_of_body}
use Rattle.turns.proofs.Prelude.{ne_eqb, ◌∙◌}
use Rattle.turns.proofs.nothing_left.Goals as goal

pub returns-then-depth-eq0 : goal.returns-then-depth-eq0
returns-then-depth-eq0 c =
    left_of_piece c.args.depth c.args.at c.args.piece.now c.if-depth-eq0.true

pub returns-else-depth-eq0 : goal.returns-else-depth-eq0
returns-else-depth-eq0 c =
    ne_eqb c.args.depth 0 c.if-depth-eq0.false ∙ left_of_body c.args.depth _ c.if-depth-eq0.false

use Rattle.turns.proofs.TurnLaws.{next_of_piece, next_of_body}
use Rattle.turns.proofs.Prelude.{◌∙◌}
use Rattle.turns.proofs.next_byte.Goals as goal

pub bounds-piece-at : goal.bounds-piece-at
bounds-piece-at c =
    c.requires.2 c.if-depth-eq0.true

pub returns-then-depth-eq0 : goal.returns-then-depth-eq0
returns-then-depth-eq0 c =
    next_of_piece c.args.depth c.args.at c.args.store.now _ c.args.piece.now c.if-depth-eq0.true

pub returns : goal.returns
returns c =
    c.innermost.ensures ∙ next_of_body c.args.depth c.args.store.now _ _ c.if-depth-eq0.false

use Rattle.queries.proofs.QueryLaws.{unread_part}
use Rattle.queries.proofs.unread.unread.Goals as goal

pub returns : goal.returns
returns c =
    unread_part c.args.piece.now c.args.consumed c.unread_from-from.result c.unread_from-from.ensures

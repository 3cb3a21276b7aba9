use Rattle.reader.proofs.FeedLaws.{fed_from}
use Rattle.reader.proofs.feed.feed_from.Goals as goal

pub returns : goal.returns
returns c =
    fed_from c.args.piece.now c.args.consumed c.unread_from-from.result c.unread_from-from.ensures c.feed.ensures

use Rattle.reader.proofs.FeedLaws.{feed_fails, feed_valid, feed_passes}
use Rattle.reader.proofs.Promising.{feeds}
use Rattle.rules.specs.Reading.{tests}
use Rattle.reader.specs.Prelude.{◌∙◌}
use Rattle.reader.proofs.feed.feed.Goals as goal

pub read-requires : goal.read-requires
unfolding tests
read-requires c =
    feed_valid c.args.session c.args.store.now c.args.piece.now c.args.out.now c.verdict.result c.verdict.ensures c.in-Ok.is

pub returns-in-Err : goal.returns-in-Err
unfolding tests
returns-in-Err c =
    feeds (feed_fails c.args.session c.args.store.now c.args.piece.now c.args.out.now c.verdict.result c.verdict.ensures _ c.in-Err.is)

pub returns-in-Ok : goal.returns-in-Ok
unfolding tests
returns-in-Ok c =
    feeds (c.read.ensures ∙ feed_passes c.args.session c.args.store.now c.args.piece.now c.args.out.now c.verdict.result c.verdict.ensures c.in-Ok.is)

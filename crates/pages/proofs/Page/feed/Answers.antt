use Rattle.std.proofs.Common.{arith, refl, ◌∙◌, length-take-le}
use Rattle.reader.proofs.PieceLaws.{piece_first, piece_within, piece_on, piece_less, piece_read}
use Rattle.pages.proofs.Written.{fed_within}
use Rattle.pages.proofs.Following.{ok_no_error}
use Rattle.pages.proofs.Page.feed.Goals as goal

pub loop-at-init : goal.loop-at-init
loop-at-init g c = (refl, piece_first _ _)

pub shared_whole_as_front-hand_on : goal.shared_whole_as_front-hand_on
shared_whole_as_front-hand_on g c = omega (arith, fed_within c.feed_from-fed.ensures, c.feed_from-fed.auto.out)

pub returns-in-Done-clause-read : goal.returns-in-Done-clause-read
returns-in-Done-clause-read g c =
    piece_read c.loop-at.invariant.1 (rw c.loop-at.invariant.0 at c.feed_from-fed.ensures) (rw c.in-Done.is refl)

pub returns-in-Refused-clause-read : goal.returns-in-Refused-clause-read
returns-in-Refused-clause-read g c =
    piece_read c.loop-at.invariant.1 (rw c.loop-at.invariant.0 at c.feed_from-fed.ensures) (rw c.in-Refused.is refl)

pub overflow_add-at : goal.overflow_add-at
overflow_add-at g c =
    omega (arith, piece_within c.loop-at.invariant.1 (rw c.loop-at.invariant.0 at c.feed_from-fed.ensures), length-take-le c.args.n c.args.self.now.piece c.requires.bytes)

pub loop-at-smaller : goal.loop-at-smaller
loop-at-smaller g c = piece_less c.loop-at.invariant.1 (rw c.loop-at.invariant.0 at c.feed_from-fed.ensures) (omega (arith, c.requires.room)) c.in-Full.is

pub loop-at-preserved : goal.loop-at-preserved
loop-at-preserved g c =
    (c.loop-at.invariant.0, piece_on c.loop-at.invariant.1 (rw c.loop-at.invariant.0 at c.feed_from-fed.ensures) c.in-Full.is)

pub returns-in_err-map_err-clause-told : goal.returns-in_err-map_err-clause-told
returns-in_err-map_err-clause-told g c =
    λ accepts. ok_no_error _ _ _ (c.map_err.ensures.variant ∙ accepts c.loop-at.hand_on _ c.hand_on.result c.hand_on.new.self c.hand_on.ensures) c.in_err-map_err.was

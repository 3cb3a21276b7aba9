use Rattle.std.proofs.Common.{◌≡◌, refl, arith, length-take-le}
use Rattle.reader.proofs.PieceLaws.{read_less}
use Rattle.pages.specs.declared.Next.TheVariants.{Piece, End}
use Rattle.pages.specs.Pieces.{none}
use Rattle.pages.proofs.Following.{after_piece}
use Rattle.pages.proofs.Page.read_piece.Goals as goal

piece-end : Piece ≡ End → ⊥
piece-end e = cc

pub returns-then-n-eq0-clause-follows : goal.returns-then-n-eq0-clause-follows
returns-then-n-eq0-clause-follows g c = none

pub returns-clause-follows : goal.returns-clause-follows
returns-clause-follows g c = after_piece _ _ _ _ c.feed.ensures.read

pub returns-clause-less : goal.returns-clause-less
returns-clause-less g c =
    λ e. read_less (rw e at c.feed.ensures.read) piece-end refl (grind (arith, length-take-le))

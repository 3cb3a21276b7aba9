use Rattle.std.proofs.Common.{◌≡◌, rules}
use Rattle.pages.specs.declared.Next.TheVariants.{Piece}
use Rattle.pages.specs.Pieces.{more}
use Rattle.pages.proofs.Page.read.Goals as goal

pub loop-preserved : goal.loop-preserved
loop-preserved g c =
    λ v r.
    let e : c.in_ok-read_piece.field-0 ≡ Piece = search rules in
    let p = rw e at c.in_ok-read_piece.ensures.follows in
    c.loop.invariant v (more p.1 r)

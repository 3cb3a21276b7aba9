use Rattle.store.specs.Runs.{none}
use Rattle.store.proofs.RunLaws.{laid_on}
use Rattle.store.proofs.cells.lay_bytes.Goals as goal

pub loop-n-init : goal.loop-n-init
loop-n-init c = none

pub loop-n-preserved : goal.loop-n-preserved
loop-n-preserved c =
    laid_on c.args.bytes.now _ _ _ _ _ c.loop-n.n c.place_in_store-at.ensures c.loop-n.invariant (c.is_plain.ensures.0 c.if-not-is_plain.false)

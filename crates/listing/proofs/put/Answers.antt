use Rattle.listing.proofs.Places.{copied}
use Rattle.listing.specs.Prelude.{refl}
use Rattle.listing.proofs.put.Goals as goal

pub returns : goal.returns
returns c = record { text = copied _ _ _ _ c.copy_from_slice.ensures.after; end = refl }

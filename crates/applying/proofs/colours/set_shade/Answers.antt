use Rattle.rules.specs.Drawing.{shade_to}
use Rattle.figures.proofs.Carrying.{none_carried}
use Rattle.applying.proofs.colours.set_shade.Goals as goal

pub returns-in-Direct : goal.returns-in-Direct
unfolding shade_to
returns-in-Direct c = none_carried _ _ _ _ (rw c.in-Direct.is)

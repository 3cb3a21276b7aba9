use Rattle.rules.specs.Drawing.{shade_map}
use Rattle.figures.proofs.Carrying.{puts_carried}
use Rattle.applying.proofs.colours.shade_map.Goals as goal

pub returns : goal.returns
unfolding shade_map
returns c = puts_carried _ _ _ _ _ _ (rw (c.put_hue.ensures, c.figure.ensures)) c.put_one.ensures

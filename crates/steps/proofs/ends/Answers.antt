use mathlib.Core.Path.{refl}
use Rattle.steps.proofs.ends.Goals as goal

pub returns : goal.returns
returns c = refl

use Rattle.line_runs.specs.Prelude.{refl}
use Rattle.line_runs.proofs.common_of.Goals as goal

pub returns : goal.returns
returns c =
    (refl, record { ink_is = record { head = c.head_of.ensures; size = refl }; last_is = c.last_character.ensures; head_is = rw c.set_number.ensures at c.head_of-2.ensures; pel_is = refl })

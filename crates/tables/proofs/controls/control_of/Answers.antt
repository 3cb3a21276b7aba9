use Rattle.tables.proofs.Prelude.{sym, ◌∙◌}
use Rattle.tables.proofs.Classes.{below_control}
use Rattle.tables.proofs.controls.control_of.Goals as goal

pub returns-in-Below : goal.returns-in-Below
returns-in-Below c =
    let below = below_control c.args.b _ (sym c.in-Below.is ∙ c.class_of.ensures) in
    λ f e. (below.0, below.1 ∙ e)

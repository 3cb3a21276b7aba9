use Rattle.tables.proofs.Prelude.{◌∙◌, sym, ap}
use Rattle.rules.specs.declared.Class.TheVariants.{Below}
use Rattle.rules.specs.declared.Control.TheVariants.{Recorded}
use Rattle.tables.proofs.Classes.{below_control}
use Rattle.tables.proofs.controls.is_recorded.Goals as goal

pub returns-in-Below-Recorded : goal.returns-in-Below-Recorded
returns-in-Below-Recorded c = λ t. below_control c.args.b Recorded (ap Below (sym c.in-Below-Recorded.field-0-is) ∙ sym c.in-Below-Recorded.is ∙ c.class_of.ensures)

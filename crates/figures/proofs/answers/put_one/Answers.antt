use Rattle.figures.proofs.Carrying.{puts_one}
use Rattle.figures.proofs.answers.put_one.Goals as goal

pub returns : goal.returns
returns c = puts_one _ _ _ _ c.put_record.ensures

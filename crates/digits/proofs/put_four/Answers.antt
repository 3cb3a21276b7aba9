use Rattle.digits.specs.Prelude.{arith}
use Rattle.digits.proofs.Places.{joined}
use Rattle.digits.proofs.put_four.Goals as goal

pub returns : goal.returns
returns c =
    joined (omega arith) c.put_two-to.ensures c.put_two.ensures

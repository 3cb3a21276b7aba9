use Rattle.digits.specs.Prelude.{arith}
use Rattle.digits.proofs.Places.{joined}
use Rattle.digits.proofs.put_two.Goals as goal

pub returns : goal.returns
returns c =
    joined (omega arith) (rw c.digit.ensures at c.put_byte-to.ensures) (rw c.digit-2.ensures at c.put_byte.ensures)

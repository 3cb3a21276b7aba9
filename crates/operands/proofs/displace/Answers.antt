use Rattle.rules.specs.Operands.{displaced, displaced_out}
use Rattle.rules.proofs.Bools.{either_first, either_second}
use Rattle.operands.proofs.displace.Goals as goal

pub returns-then-x_outside : goal.returns-then-x_outside
unfolding displaced displaced_out
returns-then-x_outside c =
    let x = c.add-x.ensures in
    let y = c.add-y.ensures in
    (rw (x.0, y.0), either_first _ x.1 c.if-x_outside.true)

pub returns-else-x_outside : goal.returns-else-x_outside
unfolding displaced displaced_out
returns-else-x_outside c =
    let x = c.add-x.ensures in
    let y = c.add-y.ensures in
    (rw (x.0, y.0), either_second x.1 y.1 c.if-x_outside.false)

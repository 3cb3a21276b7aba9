use Rattle.operands.proofs.Operands.{join_two, join_three}
use Rattle.operands.proofs.gather_byte.Goals as goal

pub returns-then-three : goal.returns-then-three
returns-then-three c =
    rw c.if-three.true
    (join_three c.args.p c.put_bits-x.result c.put_bits-y.result c.args.i c.args.byte c.requires c.put_bits-x.ensures c.put_bits-y.ensures)

pub returns-else-three : goal.returns-else-three
returns-else-three c =
    rw c.if-three.false
    (join_two c.args.p c.put_bits-x-else-three.result c.put_bits-y-else-three.result c.args.i c.args.byte c.requires c.put_bits-x-else-three.ensures c.put_bits-y-else-three.ensures)

use Rattle.operands.specs.Prelude.{sym, get_or-take}
use Rattle.rules.specs.Operands.{begun}
use Rattle.rules.proofs.Lists.{take_past}
use Rattle.operands.proofs.byte_of.Goals as goal

pub returns-then-i-o : goal.returns-then-i-o
unfolding begun
returns-then-i-o c =
    sym (get_or-take c.args.o.count c.args.o.bytes c.args.i 0 c.if-i-o.true)

pub returns-else-i-o : goal.returns-else-i-o
unfolding begun
returns-else-i-o c =
    sym (take_past c.args.o.count c.args.i c.args.o.bytes 0 c.if-i-o.false)

use Rattle.operands.proofs.Operands.{address_is}
use Rattle.operands.proofs.address_of.Goals as goal

pub returns : goal.returns
returns c =
    let e = c.byte_of.ensures in
    rw (e, address_is)

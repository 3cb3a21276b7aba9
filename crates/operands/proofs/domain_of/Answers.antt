use Rattle.operands.specs.Prelude.{sym}
use Rattle.operands.proofs.Operands.{domain_is}
use Rattle.operands.proofs.domain_of.Goals as goal

pub returns : goal.returns
returns c = sym (domain_is c.args.b c.args.pel)

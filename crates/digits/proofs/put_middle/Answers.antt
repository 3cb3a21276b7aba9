use Rattle.std.specs.Prelude.{◌/◌}
use Rattle.digits.specs.Prelude.{arith}
use Rattle.digits.proofs.Places.{joined}
use Rattle.digits.proofs.Decimals.{decimal_length, last_four}
use Rattle.digits.proofs.put_middle.Goals as goal

pub put_four-requires : goal.put_four-requires
put_four-requires c =
    (omega arith, omega (arith, c.put_short-to.ensures.end, decimal_length 1 20 (c.args.n / 10000) (omega arith)))

pub returns : goal.returns
returns c =
    rw (last_four _ c.if-n-lt10000.false (omega arith)) (joined (omega arith) c.put_short-to.ensures c.put_four.ensures)

use Rattle.std.specs.Prelude.{◌/◌}
use Rattle.digits.specs.Prelude.{arith}
use Rattle.digits.proofs.Places.{joined}
use Rattle.digits.proofs.Decimals.{decimal_length, last_four}
use Rattle.digits.proofs.put_number.Goals as goal

pub returns-then-n-lt10000 : goal.returns-then-n-lt10000
returns-then-n-lt10000 c = record { put = c.put_short.ensures; upper_bound = omega (arith, c.put_short.ensures.end, decimal_length 3 20 c.args.n (omega arith)) }

pub put_four-requires : goal.put_four-requires
put_four-requires c =
    (omega arith, omega (arith, c.put_middle-to.ensures.end, decimal_length 5 20 (c.args.n / 10000) (omega arith)))

pub returns : goal.returns
returns c = let whole = joined (omega arith) c.put_middle-to.ensures c.put_four.ensures in
    record { put = rw (last_four _ c.if-n-lt10000.false c.ranges.n.fits) whole; upper_bound = omega (arith, c.put_middle-to.ensures.end, c.put_four.ensures.end, decimal_length 5 20 (c.args.n / 10000) (omega arith)) }

use Rattle.digits.specs.Prelude.{arith}
use Rattle.digits.proofs.Places.{joined}
use Rattle.digits.proofs.Decimals.{one_digit, two_digits_lem, three_digits, four_digits_lem}
use Rattle.digits.proofs.put_short.Goals as goal

pub returns-then-n-lt10 : goal.returns-then-n-lt10
returns-then-n-lt10 c =
    rw (one_digit _ c.if-n-lt10.true) (rw c.digit.ensures at c.put_byte.ensures)

pub returns-then-n-lt100 : goal.returns-then-n-lt100
returns-then-n-lt100 c =
    rw (two_digits_lem _ c.if-n-lt10.false c.if-n-lt100.true) c.put_two.ensures

pub returns-then-n-lt1000 : goal.returns-then-n-lt1000
returns-then-n-lt1000 c =
    let hundreds = rw c.digit-then-n-lt1000.ensures at c.put_byte-to.ensures in
    rw (three_digits _ c.if-n-lt100.false c.if-n-lt1000.true) (joined (omega arith) hundreds c.put_two-then-n-lt1000.ensures)

pub returns : goal.returns
returns c =
    rw (four_digits_lem _ c.if-n-lt1000.false c.requires.0) c.put_four.ensures

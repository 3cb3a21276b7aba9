use Rattle.std.specs.Prelude.{◌≡◌, ◌-◌}
use Rattle.digits.specs.Prelude.{arith, lt-ltb, le-ltb}
use Rattle.digits.proofs.Places.{joined}
use Rattle.digits.proofs.Decimals.{one_digit}
use Rattle.digits.specs.Decimal.{signed_decimal}
use Rattle.digits.proofs.put_signed.Goals as goal

pub returns-then-pattern-lt10 : goal.returns-then-pattern-lt10
unfolding signed_decimal
returns-then-pattern-lt10 c = let known = rw c.digit.ensures at c.put_byte.ensures in
    record { put = rw (lt-ltb c.args.pattern 2147483648 (omega arith), one_digit _ c.if-pattern-lt10.true) known; upper_bound = omega (arith, known.end) }

pub returns-then-pattern-lt2147483648 : goal.returns-then-pattern-lt2147483648
unfolding signed_decimal
returns-then-pattern-lt2147483648 c = record { put = rw (lt-ltb _ _ c.if-pattern-lt2147483648.true) c.put_number.ensures.put; upper_bound = omega arith }

pub returns : goal.returns
unfolding signed_decimal
returns c = let same : c.wrapping_neg.result ≡ 4294967296 - c.args.pattern = omega (arith, c.wrapping_neg.ensures) in
    record { put = rw (le-ltb _ _ c.if-pattern-lt2147483648.false, ← same) (joined (omega arith) c.put_byte-to.ensures c.put_number-2.ensures.put); upper_bound = omega (arith, c.put_byte-to.ensures.end) }

use Rattle.std.specs.Int.{w32}
use Rattle.std.proofs.lemmas.Int.{of_z-to_z}
use Rattle.operands.proofs.Sums.{sum_is, tells}
use Rattle.operands.proofs.add.Goals as goal

pub returns : goal.returns
returns c =
    let a = c.args.a in
    let b = c.args.b in
    let p = c.ranges.a.fits in
    let q = c.ranges.b.fits in
    let same-a = of_z-to_z w32 a p in
    let same-b = of_z-to_z w32 b q in
    let v = rw (c.cast_signed.ensures, c.cast_signed-2.ensures, same-a, same-b) at c.overflowing_add-sum.ensures.value in
    let o = rw (c.cast_signed.ensures, c.cast_signed-2.ensures, same-a, same-b) at c.overflowing_add-sum.ensures.overflow in
    (sum_is a b p q _ _ v c.cast_unsigned.ensures, tells a b p q _ o)

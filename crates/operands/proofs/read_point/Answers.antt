use Rattle.operands.specs.Prelude.{refl, sym}
use Rattle.rules.specs.Operands.{bits_of, from_top, point}
use Rattle.operands.proofs.Operands.{point_next}
use Rattle.operands.proofs.read_point.Goals as goal

pub loop-i-init : goal.loop-i-init
unfolding point from_top bits_of
loop-i-init c = refl

pub loop-i-preserved : goal.loop-i-preserved
loop-i-preserved c =
    rw (c.gather_byte-p.ensures, c.loop-i.invariant) (sym (point_next c.args.three c.args.bytes.now c.loop-i.i c.loop-i-test.true))

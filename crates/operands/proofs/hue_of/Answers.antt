use Rattle.std.specs.Prelude.{◌≡◌}
use Rattle.operands.specs.Prelude.{ℕ, refl, sym, ap, ◌∙◌, arith}
use Rattle.rules.specs.Operands.{from_top, begun}
use Rattle.operands.specs.declared.Hue.{Hue}
use Rattle.operands.proofs.Operands.{hue_after, hue_next, hue_most}
use Rattle.operands.proofs.hue_of.Goals as goal

pub loop-i-init : goal.loop-i-init
unfolding hue_after from_top
loop-i-init c = refl

pub gather_tuples-hue-requires : goal.gather_tuples-hue-requires
gather_tuples-hue-requires c =
    hue_most c.loop-i.i (begun c.args.o) c.loop-i.hue c.loop-i.invariant c.loop-i-test.true

pub loop-i-preserved : goal.loop-i-preserved
loop-i-preserved c =
    let bs = begun c.args.o in
    rw (c.gather_tuples-hue.ensures, c.byte_of.ensures, c.loop-i.invariant) (sym (hue_next c.loop-i.i bs))

pub returns : goal.returns
unfolding hue_after
returns c =
    let bs = begun c.args.o in
    let four : c.loop-i.i ≡ 4 = omega (arith, c.loop-i-test.false, c.loop-i.auto.i-end) in
    let e = c.loop-i.invariant ∙ ap (λ (i : ℕ). hue_after i bs) four in
    (ap (λ (h : Hue). h.green) e, ap (λ (h : Hue). h.red) e, ap (λ (h : Hue). h.blue) e)

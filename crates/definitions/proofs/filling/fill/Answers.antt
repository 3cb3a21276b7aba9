use Rattle.definitions.specs.Prelude.{arith, ℕ}
use Rattle.store.specs.Each.{none}
use Rattle.store.proofs.EachLaws.{then_byte, then_part}
use Rattle.definitions.proofs.StoringLaws.{byte_stored}
use Rattle.std.proofs.Common.{length-take}
use Rattle.definitions.proofs.filling.fill.Goals as goal

pub loop-count-init : goal.loop-count-init
loop-count-init c = (omega arith, none)

pub returns-then-count-bytes-clause-stored : goal.returns-then-count-bytes-clause-stored
returns-then-count-bytes-clause-stored c =
    then_part _ _ _ _ c.loop-count.invariant.1 _ _ (omega (arith, c.store_run-count.ensures.most, length-take {A = ℕ})) (c.store_run-count.ensures.stored c.args.definition.name c.loop-count.firsts)

pub returns-in_default-clause-stored : goal.returns-in_default-clause-stored
returns-in_default-clause-stored c =
    let ran = then_part _ _ _ _ c.loop-count.invariant.1 _ _ (omega (arith, c.store_run-count.ensures.most, length-take {A = ℕ})) (c.store_run-count.ensures.stored c.args.definition.name c.loop-count.firsts) in
    rw (c.in_default.ensures.refused.0, c.in_default.ensures.refused.1) ran

pub loop-count-preserved : goal.loop-count-preserved
loop-count-preserved c =
    let ran = then_part _ _ _ _ c.loop-count.invariant.1 _ _ (omega (arith, c.store_run-count.ensures.most, length-take {A = ℕ})) (c.store_run-count.ensures.stored c.args.definition.name c.loop-count.firsts) in
    (omega arith, then_byte _ _ _ _ ran (c.is_plain.ensures.0 c.if-not-is_plain.false, byte_stored _ _ c.store_byte.result _ _ _ c.store_byte.ensures.stored c.in-Ok.is))

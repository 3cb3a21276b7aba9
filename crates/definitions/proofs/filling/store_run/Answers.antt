use Rattle.definitions.specs.Prelude.{sym, ◌∙◌, arith, ℕ}
use Rattle.store.specs.Each.{none}
use Rattle.store.proofs.CellLaws.{good_most}
use Rattle.store.proofs.RunLaws.{laid_first}
use Rattle.definitions.proofs.RunLaws.{run_stored}
use Rattle.std.proofs.Common.{rules, length-take}
use Rattle.definitions.proofs.filling.store_run.Goals as goal

pub returns-then-last-eq0-clause-stored : goal.returns-then-last-eq0-clause-stored
returns-then-last-eq0-clause-stored c = λ name firsts. none

pub overflow_sub-count : goal.overflow_sub-count
overflow_sub-count c =
    good_most _ (sym c.good_count.ensures ∙ c.if-not-good_count.false)

pub lay_bytes-n-requires : goal.lay_bytes-n-requires
lay_bytes-n-requires c =
    let few = good_most _ (sym c.good_count.ensures ∙ c.if-not-good_count.false) in
    (search rules, omega (arith, few, c.min-most.ensures, length-take {A = ℕ}))

pub returns-clause-stored : goal.returns-clause-stored
returns-clause-stored c =
    let good = sym c.good_count.ensures ∙ c.if-not-good_count.false in
    let few = good_most _ good in
    let laid = laid_first c.args.bytes.now _ _ _ _ _ _ (omega (arith, c.lay_bytes-n.ensures.most, length-take {A = ℕ})) c.lay_bytes-n.ensures.laid in
    λ name firsts. run_stored _ _ _ name firsts _ c.requires (omega arith) c.if-last-eq0.false _ _ _ _ c.count_of-count.ensures good
    (omega (arith, few, c.min-most.ensures, c.lay_bytes-n.ensures.most, length-take {A = ℕ})) laid c.set_count.ensures

use Rattle.store.proofs.CellLaws.{good_most}
use Rattle.store.proofs.StretchLaws.{stretches_none, stretches_cell}
use Rattle.store.specs.Prelude.{arith, ◌∙◌, sym}
use Rattle.store.proofs.cursors.stretch_of.Goals as goal

pub returns-then-cursor-eq0 : goal.returns-then-cursor-eq0
returns-then-cursor-eq0 c = let none = stretches_none c.args.store.now c.args.cursor in record { gives = none.0; within = none.1.0; place = none.1.1 }

pub place_in_store-requires : goal.place_in_store-requires
place_in_store-requires c =
    omega (arith, good_most _ (sym c.good_count.ensures ∙ c.if-not-good_count.false))

pub place_in_store-requires-2 : goal.place_in_store-requires-2
place_in_store-requires-2 c =
    omega (arith, good_most _ (sym c.good_count.ensures ∙ c.if-not-good_count.false))

pub returns : goal.returns
returns c = let some = stretches_cell c.args.store.now c.args.cursor c.count_of-count.result _ _ (c.requires) (omega arith) c.if-cursor-eq0.false c.count_of-count.ensures (sym c.good_count.ensures ∙ c.if-not-good_count.false) c.if-count-cursor.false c.place_in_store.ensures c.place_in_store-2.ensures in record { gives = some.0; within = some.1.0; place = some.1.1 }

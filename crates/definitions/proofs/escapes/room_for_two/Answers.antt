use Rattle.definitions.specs.Prelude.{eq-eqb, ne_eqb, lt-ltb, le-ltb}
use Rattle.definitions.specs.Room.{room_for_two}
use Rattle.definitions.proofs.escapes.room_for_two.Goals as goal

pub returns-then-last-eq0 : goal.returns-then-last-eq0
unfolding room_for_two
returns-then-last-eq0 c =
    simp (eq-eqb _ _ c.if-last-eq0.true) c.free_cell.ensures

pub returns-then-not-good_count : goal.returns-then-not-good_count
unfolding room_for_two
returns-then-not-good_count c =
    simp (ne_eqb _ _ c.if-last-eq0.false, ← c.count_of-count.ensures, ← c.good_count.ensures, c.if-not-good_count.true)

pub returns-then-count : goal.returns-then-count
unfolding room_for_two
returns-then-count c =
    simp (ne_eqb _ _ c.if-last-eq0.false, ← c.count_of-count.ensures, ← c.good_count.ensures, c.if-not-good_count.false, lt-ltb _ _ c.if-count.true)

pub returns : goal.returns
unfolding room_for_two
returns c =
    simp (ne_eqb _ _ c.if-last-eq0.false, ← c.count_of-count.ensures, ← c.good_count.ensures, c.if-not-good_count.false, le-ltb _ _ c.if-count.false) c.free_cell-2.ensures

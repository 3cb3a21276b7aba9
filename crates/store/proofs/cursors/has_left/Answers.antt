use Rattle.store.specs.Prelude.{eq-eqb, ne_eqb, lt-ltb, le-ltb}
use Rattle.rules.specs.Bodies.{has_left}
use Rattle.store.proofs.cursors.has_left.Goals as goal

pub returns-then-cursor-count_of : goal.returns-then-cursor-count_of
unfolding has_left
returns-then-cursor-count_of c =
    simp (ne_eqb _ _ c.if-cursor-ne0.true, ← c.count_of.ensures, lt-ltb _ _ c.if-cursor-count_of.true)

pub returns-else-cursor-count_of : goal.returns-else-cursor-count_of
unfolding has_left
returns-else-cursor-count_of c =
    simp (ne_eqb _ _ c.if-cursor-ne0.true, ← c.count_of.ensures, le-ltb _ _ c.if-cursor-count_of.false, ← c.next_of.ensures)

pub returns-else-cursor-ne0 : goal.returns-else-cursor-ne0
unfolding has_left
returns-else-cursor-ne0 c = simp (eq-eqb _ _ c.if-cursor-ne0.false)

use Rattle.definitions.specs.Prelude.{eq-eqb, ne_eqb}
use Rattle.definitions.specs.Room.{free_cell}
use Rattle.definitions.proofs.escapes.free_cell.Goals as goal

pub returns-then-next_of-eq0 : goal.returns-then-next_of-eq0
unfolding free_cell
returns-then-next_of-eq0 c =
    simp (← c.next_of.ensures, eq-eqb _ _ c.if-next_of-eq0.true)

pub returns : goal.returns
unfolding free_cell
returns c =
    simp (← c.next_of.ensures, ne_eqb _ _ c.if-next_of-eq0.false)

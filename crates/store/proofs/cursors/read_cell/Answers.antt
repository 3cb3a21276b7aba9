use Rattle.store.specs.Prelude.{add-one}
use Rattle.rules.specs.Bodies.{read_cell}
use Rattle.store.proofs.cursors.read_cell.Goals as goal

pub returns : goal.returns
unfolding read_cell
returns c =
    simp (← c.body_byte-byte.ensures, add-one)

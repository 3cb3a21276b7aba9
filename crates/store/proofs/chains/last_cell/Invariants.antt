use Rattle.std.specs.Prelude.{◌≡◌, ◌-◌}
use Rattle.rules.specs.Store.{last_cell}
use Rattle.store.proofs.chains.last_cell.Given as goal

-- The last cell is the last one from here on
abbrev pub invariant-loop : goal.invariant-loop
invariant-loop l = last_cell 255 l.store l.first ≡ last_cell (255 - l.counter) l.store l.cell

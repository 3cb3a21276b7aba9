use Rattle.std.specs.Prelude.{◌≡◌}
use Rattle.store.specs.Prelude.{length}
use Rattle.store.proofs.CellLaws.{linked_to}
use Rattle.store.proofs.opening.link.Given as goal

-- The cells before this one are linked, each to the next
abbrev pub invariant-loop-cell : goal.invariant-loop-cell
invariant-loop-cell l = (l.store ≡ linked_to l.cell) × (length l.store ≡ 8192)

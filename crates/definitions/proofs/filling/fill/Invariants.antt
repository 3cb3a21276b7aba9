use Rattle.std.specs.Prelude.{◌-◌, ◌≤◌}
use Rattle.definitions.specs.Prelude.{length}
use Rattle.store.specs.Runs.{Stores}
use Rattle.definitions.specs.Storing.{filling_of}
use Rattle.definitions.proofs.filling.fill.Given as goal

-- So many bytes are stored
abbrev pub invariant-loop-count : goal.invariant-loop-count
invariant-loop-count l = (l.count ≤ length l.bytes) × (Stores l.bytes 0 (filling_of (record { name = l.name; last = l.initial.last }) l.initial.firsts l.initial.store) l.count (filling_of (record { name = l.name; last = l.last }) l.firsts l.store))

abbrev pub decreases-loop-count : goal.decreases-loop-count
decreases-loop-count l = length l.bytes - l.count

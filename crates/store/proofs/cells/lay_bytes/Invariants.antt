use Rattle.store.specs.Runs.{Laid}
use Rattle.store.proofs.cells.lay_bytes.Given as goal

-- The bytes before this one are laid
abbrev pub invariant-loop-n : goal.invariant-loop-n
invariant-loop-n l = Laid l.bytes 0 l.cell l.place l.initial.store l.n l.store

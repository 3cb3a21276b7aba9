use Rattle.std.specs.Prelude.{◌-◌, ◌≤◌}
use Rattle.coding_runs.specs.Prelude.{length}
use Rattle.coding_runs.specs.Idle.{Idle, coded}
use Rattle.reactions.specs.View.{coding_of}
use Rattle.coding_runs.proofs.run_idle.Given as goal

-- So many bytes were idle
abbrev pub invariant-loop-waiting : goal.invariant-loop-waiting
invariant-loop-waiting l = (l.count ≤ length l.bytes) × (Idle l.bytes 0 (coded (coding_of l.initial.sets l.initial.waiting l.initial.firsts) l.initial.store) l.count (coded (coding_of l.sets l.waiting l.firsts) l.store))

abbrev pub decreases-loop-waiting : goal.decreases-loop-waiting
decreases-loop-waiting l = length l.bytes - l.count

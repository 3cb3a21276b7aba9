use Rattle.std.proofs.Common.{◌-◌, ◌≤◌, length}
use Rattle.pagecheck.proofs.read_full.Given as goal

-- What is read is in the room
abbrev pub invariant-loop-done : goal.invariant-loop-done
invariant-loop-done g l = l.done ≤ length l.into

abbrev pub decreases-loop-done : goal.decreases-loop-done
decreases-loop-done g l = length l.into - l.done

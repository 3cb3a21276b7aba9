use Rattle.std.specs.Prelude.{◌≡◌, ◌≤◌, ◌-◌}
use Rattle.text_runs.proofs.Prelude.{length}
use Rattle.line_runs.specs.Characters.{Goes}
use Rattle.text_runs.proofs.put_characters.Given as goal

abbrev pub invariant-loop-put : goal.invariant-loop-put
invariant-loop-put l =
    (l.count ≤ l.put.count) × (l.put.count ≤ length l.bytes) × (length l.out ≡ length l.initial.out) × Goes l.common l.bytes 0 l.at l.count l.fn.hand.moved l.fn.hand.text l.initial.out l.put.count l.put.left.moved l.put.left.text l.out

abbrev pub decreases-loop-put : goal.decreases-loop-put
decreases-loop-put l = length l.bytes - l.put.count

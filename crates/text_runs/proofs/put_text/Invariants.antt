use Rattle.std.specs.Prelude.{◌≡◌, ◌≤◌, ◌-◌}
use Rattle.text_runs.proofs.Prelude.{length}
use Rattle.line_runs.specs.Characters.{pen_of, Puts}
use Rattle.text_runs.proofs.put_text.Given as goal

abbrev pub invariant-loop-common : goal.invariant-loop-common
invariant-loop-common l =
    (l.count ≤ length l.bytes) × (length l.out ≡ length l.initial.out) × ((pen_of l.hand.moved l.hand.text l.pen).text ≡ l.hand.text)
    × Puts l.common l.bytes 0 l.at 0 (pen_of l.initial.hand.moved l.initial.hand.text l.initial.pen) l.initial.out l.count (pen_of l.hand.moved l.hand.text l.pen) l.out

abbrev pub decreases-loop-common : goal.decreases-loop-common
decreases-loop-common l = length l.bytes - l.count

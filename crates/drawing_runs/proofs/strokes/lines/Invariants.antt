use Rattle.std.specs.Prelude.{◌≡◌, ◌+◌, ◌*◌, ◌≤◌}
use Rattle.drawing_runs.specs.Prelude.{length}
use Rattle.drawing_runs.specs.Strokes.{Lines}
use Rattle.drawing_runs.proofs.strokes.lines.Given as goal

-- n points are read, and the lines to them written
abbrev pub invariant-loop-n : goal.invariant-loop-n
invariant-loop-n l = record {
  long : length l.out ≡ length l.initial.out;
  room : l.at + 40 * l.n ≤ length l.initial.out;
  lines : Lines l.bytes 0 l.head l.pel l.initial.point l.at l.initial.out (3 * l.n) l.point (l.at + 40 * l.n) l.out;
}

use Rattle.std.specs.Prelude.{◌≡◌, ◌-◌}
use Rattle.line_runs.specs.Prelude.{length}
use Rattle.rules.specs.declared.Text.{Text}
use Rattle.line_runs.proofs.CharacterLaws.{LineFrom, OnLine}
use Rattle.line_runs.proofs.put_line.Given as goal

abbrev pub invariant-loop-n : goal.invariant-loop-n
invariant-loop-n l =
    (length l.out ≡ length l.initial.out)
    × ((t : Text) → LineFrom t l.text.field l.initial.cursor (l.end - l.count) l.step → OnLine l.common l.bytes 0 l.at t l.step l.initial.cursor l.count l.initial.out l.n l.cursor l.out)

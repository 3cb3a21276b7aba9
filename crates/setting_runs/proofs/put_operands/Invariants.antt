use Rattle.std.specs.Prelude.{◌-◌, ◌≤◌, ◌≡◌}
use Rattle.setting_runs.specs.Prelude.{length}
use Rattle.rules.specs.declared.Look.{Look}
use Rattle.setting_runs.specs.Settings.{SetsTo}
use Rattle.setting_runs.proofs.put_operands.Given as goal

abbrev pub invariant-loop-taken : goal.invariant-loop-taken
invariant-loop-taken m =
    (m.command.opcode ≡ 34) × (m.count ≤ length m.bytes) × ((l : Look) → l.domain ≡ m.look.domain → SetsTo m.bytes 0 m.initial.command l m.initial.text m.count m.command m.text)

abbrev pub decreases-loop-taken : goal.decreases-loop-taken
decreases-loop-taken l = length l.bytes - l.count

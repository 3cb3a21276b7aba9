use Rattle.std.specs.Prelude.{◌≡◌, ◌-◌, ◌≤◌}
use Rattle.command_runs.proofs.Prelude.{Bool, List, ℕ, length}
use Rattle.rules.specs.declared.Command.{Command}
use Rattle.rules.specs.declared.Domain.{Domain}
use Rattle.rules.specs.declared.Look.{Look}
use Rattle.rules.specs.declared.Operand.{Operand}
use Rattle.rules.specs.declared.Point.{Point}
use Rattle.rules.specs.declared.Role.{Role}
use Rattle.rules.specs.declared.Row.{Row}
use Rattle.rules.specs.declared.Text.{Text}
use Rattle.records.specs.declared.Head.{Head}
use Rattle.rules.specs.Drawing.{row_of, role_of}
use Rattle.drawing_runs.specs.Run.{standing}
use Rattle.figures.specs.Tracing.{Inks, pen_at}
use Rattle.command_runs.proofs.CommandLaws.{Stands, Reaches}
use Rattle.command_runs.proofs.run_commands.Given as goal

-- The row is the open command's, the role that of the operand which is due, the places are in range, the output keeps its length, the
-- point is known, and the bytes so far are a run, with no operand begun
pub record RunSoFar (point₀ : Point) (bytes : List ℕ) (out₀ : List ℕ) (ink : Head) (domain : Domain) (pel : Point) (n at₀ : ℕ) (command₀ : Command) (out : List ℕ) (row : Row) (role : Role) (place at : ℕ) (moved : Bool) (point : Point) (command : Command) : Type 0 where
  pub own : row ≡ row_of command.opcode
  pub due : role ≡ role_of row.pattern command.due
  pub within : place ≤ length bytes
  pub long : length out ≡ length out₀
  pub room : at ≤ length out
  pub stands : (o : Operand) (t : Text) → Stands (pen_at point₀ t o) (place - 0) moved point
  pub runs : (o : Operand) → o.count ≡ 0 → length o.bytes ≡ 8 → (t : Text) (l : Look) (m : List ℕ) → Inks ink pel l → n ≡ l.domain.multi → domain.three ≡ l.domain.three
      → Reaches bytes 0 (standing (pen_at point₀ t o) command₀ l m at₀ out₀) (pen_at point₀ t o) place moved point command l m at out

abbrev pub invariant-loop-place : goal.invariant-loop-place
invariant-loop-place l =
    RunSoFar l.initial.point l.bytes l.initial.out l.ink l.domain l.pel l.n l.initial.at l.initial.command l.out l.row l.role l.place l.at l.moved l.point l.command

abbrev pub decreases-loop-place : goal.decreases-loop-place
decreases-loop-place l = length l.bytes - l.place

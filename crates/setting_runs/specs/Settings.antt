-- TEXT's operands in a run
use Rattle.std.specs.Prelude.{◌+◌, ◌≤◌, ◌≡◌}
use Rattle.setting_runs.specs.Prelude.{ℕ, zero, suc, List, length}
use Rattle.rules.specs.declared.Command.{Command}
use Rattle.rules.specs.declared.Look.{Look}
use Rattle.rules.specs.declared.Operand.{Operand}
use Rattle.rules.specs.declared.Point.{Point}
use Rattle.rules.specs.declared.Set.TheVariants.{Pdi}
use Rattle.rules.specs.declared.Text.{Text}
use Rattle.rules.specs.Numbers.{room_for_step}
use Rattle.rules.specs.Drawing.{advanced, with_due, no_operand}
use Rattle.figures.specs.Tracing.{pen_at}
use Rattle.drawing_runs.specs.Run.{standing, Run}

-- What so many bytes, none or those of one operand, leave of the operand that was begun and of TEXT
abbrev pub operand_after : ℕ → Operand → Operand
operand_after zero o = o
operand_after (suc n) o = no_operand

abbrev pub command_after : ℕ → Command → Command
command_after zero c = c
command_after (suc n) c = with_due (advanced c.due) c

-- So many bytes are whole operands of TEXT, which was open with c and is with c', and make the text u of t
abbrev pub SetsTo : List ℕ → ℕ → Command → Look → Text → ℕ → Command → Text → Type 0
SetsTo bytes from c l t n c' u =
    (p : Point) (o : Operand) (m : List ℕ) (at : ℕ) (out : List ℕ)
    → o.count ≡ 0
    → length o.bytes ≡ 8
    → at + room_for_step ≤ length out
    → Run Pdi bytes from (standing (pen_at p t o) c l m at out) n (standing (pen_at p u (operand_after n o)) c' l m at out)

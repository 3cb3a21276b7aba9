-- What a byte of the PDI set below 4/0 asks of drawing
use Rattle.std.specs.Prelude.{◌≡◌}
use Rattle.command_steps.specs.Prelude.{ℕ, List, ltb}
use Rattle.rules.specs.declared.Action.{Action}
use Rattle.rules.specs.declared.Action.TheVariants.{Control, Opcode}
use Rattle.rules.specs.declared.Command.{Command}
use Rattle.rules.specs.declared.Look.{Look}
use Rattle.rules.specs.declared.Operand.{Operand}
use Rattle.rules.specs.declared.Point.{Point}
use Rattle.rules.specs.declared.Text.{Text}
use Rattle.rules.specs.Choice.{pick}
use Rattle.rules.specs.Drawing.{act}
use Rattle.figures.specs.Carried.{carry_out, drawing_of}
use Rattle.figures.specs.Tracing.{pen_at, moved_if}
use Rattle.drawing_runs.specs.Run.{standing}
use Rattle.drawing_runs.specs.Strokes.{rested}
use Rattle.command_steps.specs.declared.opening.Next.{Next}

-- A control or an opcode, where no layer below drawing takes it
abbrev pub asked : ℕ → Action
asked b = pick (ltb b 32) (Control b) (Opcode b)

-- The byte b closes the command c at the point p and goes on as r tells, with the output left so
abbrev pub GoesOn : ℕ → Point → Text → Operand → Command → Look → List ℕ → ℕ → List ℕ → Next → List ℕ → Type 0
GoesOn b p t o c l m at out r left =
    standing (rested (moved_if r.moved r.point (pen_at p t o))) r.command l m r.at left
    ≡ carry_out (act (asked b)) (drawing_of (pen_at p t o) c l m) at out

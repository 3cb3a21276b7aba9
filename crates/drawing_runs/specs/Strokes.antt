-- Operands of three bytes in two dimensions, of a command that goes to each point read
use Rattle.std.specs.Prelude.{◌+◌, ◌≤◌, ◌≡◌}
use Rattle.drawing_runs.specs.Prelude.{ℕ, zero, suc, Bool, true, false, List, length}
use Rattle.rules.specs.declared.Command.{Command}
use Rattle.rules.specs.declared.Due.TheVariants.{First}
use Rattle.rules.specs.declared.Look.{Look}
use Rattle.rules.specs.declared.Operand.{Operand}
use Rattle.rules.specs.declared.Pattern.TheVariants.{A}
use Rattle.rules.specs.declared.Pen.{Pen}
use Rattle.rules.specs.declared.Point.{Point}
use Rattle.rules.specs.declared.Set.TheVariants.{Pdi}
use Rattle.rules.specs.declared.Text.{Text}
use Rattle.rules.specs.Numbers.{room_for_step}
use Rattle.rules.specs.Drawing.{row, row_of, no_operand}
use Rattle.rules.specs.Record.{record_of}
use Rattle.records.specs.declared.Head.{Head}
use Rattle.records.specs.Bytes.{head_of, head_bytes}
use Rattle.figures.specs.Tracing.{pen_at, moved_if}
use Rattle.drawing_runs.specs.declared.Moved.{Moved}
use Rattle.drawing_runs.specs.declared.Ran.{Ran}
use Rattle.drawing_runs.specs.Run.{standing, Run}

-- A pen with no operand begun
abbrev pub rested : Pen → Pen
rested p = record { point = p.point; text = p.text; operand = no_operand }

-- The pen after so many bytes, with the drawing point moved to q or not: as lent where none has come
abbrev pub pen_after : ℕ → Bool → Pen → Point → Pen
pen_after zero w p q = p
pen_after (suc n) w p q = rested (moved_if w q p)

-- What a run of PDI bytes that looks at no text comes to, whatever text and map hold, with the output left so
abbrev pub PassesTo : List ℕ → ℕ → Point → Operand → Command → Look → ℕ → List ℕ → Ran Moved → List ℕ → Type 0
PassesTo bytes from p o command look at out r left =
    (t : Text) (m : List ℕ)
    → Run Pdi bytes from (standing (pen_at p t o) command look m at out) r.count
    (standing (pen_after r.count r.left.moved (pen_at p t o) r.left.point) r.command look m r.at left)

-- The first operand is due of such a command, with figures of a kind that are not filled; none of it is begun
pub record StrokeDue (kind : ℕ) (p : Pen) (c : Command) (l : Look) : Type 0 where
  pub drawn : row_of c.opcode ≡ row A kind false
  pub due : c.due ≡ First
  pub multi : l.domain.multi ≡ 3
  pub plane : l.domain.three ≡ false
  pub fresh : p.operand.count ≡ 0
  pub eight : length p.operand.bytes ≡ 8

-- n bytes of POINT SET, the last point q
abbrev pub Moves : List ℕ → ℕ → ℕ → Point → Type 0
Moves bytes from n q =
    (p : Pen) (c : Command) (l : Look) (m : List ℕ) (at : ℕ) (out : List ℕ)
    → StrokeDue 0 p c l
    → at + room_for_step ≤ length out
    → Run Pdi bytes from (standing p c l m at out) n (standing (pen_after n true p q) c l m at out)

-- n bytes of LINE from the point p₀ and the place at₀ of out₀, the last point q; the records have the head and the pel
abbrev pub Lines : List ℕ → ℕ → Head → Point → Point → ℕ → List ℕ → ℕ → Point → ℕ → List ℕ → Type 0
Lines bytes from head pel p₀ at₀ out₀ n q at out =
    (p : Pen) (c : Command) (l : Look) (m : List ℕ)
    → StrokeDue 2 p c l
    → p.point ≡ p₀
    → ((a b s : Point) → head_bytes head ≡ head_of (record_of l 2 0 0 0 a b s))
    → pel ≡ l.domain.pel
    → ((pen_after n true p q).point ≡ q) × Run Pdi bytes from (standing p c l m at₀ out₀) n (standing (pen_after n true p q) c l m at out)

-- Runs: bytes of one set, acted on one after the other
use Rattle.std.specs.Prelude.{◌+◌, ◌≤◌, ◌≡◌}
use Rattle.drawing_runs.specs.Prelude.{ℕ, zero, suc, false, List, length, get_or}
use Rattle.rules.specs.declared.Action.{Action}
use Rattle.rules.specs.declared.Bodies.{Bodies}
use Rattle.rules.specs.declared.Coding.{Coding}
use Rattle.rules.specs.declared.Command.{Command}
use Rattle.rules.specs.declared.Drawing.{Drawing}
use Rattle.rules.specs.declared.Look.{Look}
use Rattle.rules.specs.declared.Pen.{Pen}
use Rattle.rules.specs.declared.Record.{Record}
use Rattle.rules.specs.declared.Set.{Set}
use Rattle.rules.specs.declared.Waiting.TheVariants.{Nothing}
use Rattle.rules.specs.Numbers.{room_for_step}
use Rattle.rules.specs.Coding.{React, set_of, react}
use Rattle.rules.specs.Drawing.{Draw, act}
use Rattle.rules.specs.Step.{bodies_after}
use Rattle.figures.specs.Carried.{Carried, carry, drawing_of}
use Rattle.drawing_runs.specs.declared.Ran.{Ran}

-- A byte that asks an action of drawing and changes nothing else, wherever nothing is waited for and the set is in use; the action
-- leaves no body
pub record ActsAs (s : Set) (b : ℕ) (a : Action) : Type 0 where
  pub asks : (c : Coding) (st : List ℕ) → c.waiting ≡ Nothing → set_of c.sets.used c.sets ≡ s → react c st b ≡ React c st a
  pub keeps : (y : Bodies) → bodies_after a y ≡ y

-- A drawing state in its parts, at a place of an output
abbrev pub standing : Pen → Command → Look → List ℕ → ℕ → List ℕ → Carried
standing p c l m at out = record { refused = false; drawing = drawing_of p c l m; at = at; output = out }

-- So many bytes from a place on, each a step of its own: none is refused, and each has room for a step
pub data Run (s : Set) (bytes : List ℕ) (from : ℕ) (x : Carried) : ℕ → Carried → Type 0 where
  none : Run s bytes from x zero x
  more : {n : ℕ} {y : Carried} {a : Action} {e : Drawing} {rs : List Record}
      → Run s bytes from x n y → ActsAs s (get_or bytes (from + n) 0) a
      → y.at + room_for_step ≤ length y.output → act a y.drawing ≡ Draw e rs
      → Run s bytes from x (suc n) (carry (Draw e rs) y.drawing y.at y.output)

-- What a run of bytes of a set comes to from a drawing state, whatever its map holds, with the output left so
abbrev pub RunsTo : Set → List ℕ → ℕ → Pen → Command → Look → ℕ → List ℕ → Ran Pen → List ℕ → Type 0
RunsTo s bytes from pen command look at out r left =
    (m : List ℕ)
    → Run s bytes from (standing pen command look m at out) r.count (standing r.left r.command look m r.at left)

-- Runs with the pen apart from its text
use Rattle.drawing_runs.specs.Prelude.{ℕ, List}
use Rattle.rules.specs.declared.Command.{Command}
use Rattle.rules.specs.declared.Look.{Look}
use Rattle.rules.specs.declared.Set.{Set}
use Rattle.rules.specs.declared.Text.{Text}
use Rattle.pens.specs.Tips.{pen_of}
use Rattle.pens.specs.declared.tips.Tip.{Tip}
use Rattle.drawing_runs.specs.declared.Ran.{Ran}
use Rattle.drawing_runs.specs.Run.{Run, standing}

-- What a run of bytes of a set comes to from the text t, whatever the map holds, with the text u and the output left so
abbrev pub DrawsTo : Set → List ℕ → ℕ → Text → Tip → Command → Look → ℕ → List ℕ → Ran Tip → Text → List ℕ → Type 0
DrawsTo s bytes from t x command look at out r u left =
    (m : List ℕ)
    → Run s bytes from (standing (pen_of t x) command look m at out) r.count (standing (pen_of u r.left) r.command look m r.at left)

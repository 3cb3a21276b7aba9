-- An outcome of the drawing rules carried out on an output
use Rattle.std.specs.Prelude.{◌+◌, ◌≡◌, Result, Ok, Err, ℕ, Bool, true, false, List, length}
use Rattle.rules.specs.declared.Pen.{Pen}
use Rattle.rules.specs.declared.Command.{Command}
use Rattle.rules.specs.declared.Look.{Look}
use Rattle.rules.specs.declared.Drawing.{Drawing}
use Rattle.rules.specs.declared.Record.{Record}
use Rattle.rules.specs.Record.{bytes_of_all}
use Rattle.rules.specs.Drawing.{Outcome, NotDrawn, Draw}
use Rattle.records.specs.Bytes.{overwrite}
use Rattle.figures.specs.declared.TooManyVertices.{TooManyVertices}

-- The drawing state, the output and the place after its records; a refusal leaves all three
pub record Carried : Type 0 where
  pub refused : Bool
  pub drawing : Drawing
  pub at : ℕ
  pub output : List ℕ

unfoldable pub carry : Outcome → Drawing → ℕ → List ℕ → Carried
carry (NotDrawn r) d at out = record { refused = true; drawing = d; at = at; output = out }
carry (Draw e rs) d at out =
    record {
      refused = false;
      drawing = e;
      at = at + length (bytes_of_all rs);
      output = overwrite at (bytes_of_all rs) out;
    }

-- Records are written at a place: the place after them, and the output
abbrev pub Puts : List Record → ℕ → List ℕ → ℕ → List ℕ → Type 0
Puts rs at out at' out' = (at' ≡ at + length (bytes_of_all rs)) × (out' ≡ overwrite at (bytes_of_all rs) out)

-- The drawing state of its parts
abbrev pub drawing_of : Pen → Command → Look → List ℕ → Drawing
drawing_of p c l m = record { pen = p; command = c; look = l; map = m }

-- What a function answers, with the drawing state and the output that it leaves; where it refuses, the place as it was lent
abbrev pub carried_of : Result ℕ TooManyVertices → ℕ → Drawing → List ℕ → Carried
carried_of (Ok n) at d out = record { refused = false; drawing = d; at = n; output = out }
carried_of (Err e) at d out = record { refused = true; drawing = d; at = at; output = out }

-- What a rule does to a drawing state, carried out
abbrev pub carry_out : (Drawing → Outcome) → Drawing → ℕ → List ℕ → Carried
carry_out rule d at out = carry (rule d) d at out

-- The turn of the rules by its parts, and what it leaves
use Rattle.std.specs.Prelude.{◌+◌, ◌∷◌, Option, Some}
use Rattle.steps.specs.Prelude.{ℕ, zero, suc, Bool, true, false, List, [], length, get_or}
use Rattle.rules.specs.declared.Bodies.{Bodies}
use Rattle.rules.specs.declared.Cursor.{Cursor}
use Rattle.rules.specs.Bodies.{nowhere, body_at, with_body, read_body}
use Rattle.rules.specs.Record.{bytes_of_all}
use Rattle.rules.specs.Step.{State, with_bodies, Source, FromBody, FromPiece, Move, interpret}
use Rattle.rules.specs.Turn.{Turn, Ends, Takes, on_move}
use Rattle.rules.specs.Reading.{consumed_by}
use Rattle.records.specs.Bytes.{overwrite}
use Rattle.steps.specs.declared.Course.{Course}
use Rattle.steps.specs.declared.Course.TheVariants.{GoesOn, Ends as Ends·course}

-- A byte sought at a depth, once spent bodies are removed: whether there is none, or the byte and where its body is read on
abbrev pub nothing_left : ℕ → List ℕ → Bool
nothing_left zero [] = true
nothing_left zero (b ∷ bs) = false
nothing_left (suc i) bs = false

abbrev pub next_byte : ℕ → List ℕ → Bodies → List ℕ → Option (ℕ × Cursor)
next_byte zero st y bs = Some (get_or bs 0 0, nowhere)
next_byte (suc i) st y bs = read_body st (body_at y i)

-- Without a body, the byte is the piece's
abbrev pub source_at : ℕ → Source
source_at zero = FromPiece
source_at (suc i) = FromBody

abbrev pub read_on : ℕ → Cursor → Bodies → Bodies
read_on zero x y = y
read_on (suc i) x y = with_body (suc i) i x y

abbrev pub advanced : ℕ → Cursor → State → State
advanced d x w = with_bodies (read_on d x w.session.bodies) w

-- A step at a depth, by what it does once its body is read on. What it leaves is the same for every byte and rest of the piece, so these
-- are not given
abbrev pub step_by : ℕ → Cursor → (State → Move) → State → Turn 1
step_by d x move w = on_move (move (advanced d x w)) 0 (source_at d) [] w

unfoldable pub interpreted : ℕ → Cursor → ℕ → State → Turn 1
interpreted d x b w = step_by d x (λ v. interpret v (source_at d) b) w

-- What a turn leaves, at a place of the piece and of the output
pub record Left : Type 0 where
  pub course : Course
  pub state : State
  pub consumed : ℕ
  pub written : ℕ
  pub output : List ℕ

unfoldable pub leaves : {n : ℕ} → Turn n → ℕ → ℕ → List ℕ → Left
leaves (Ends a w) at written out =
    record { course = Ends·course a; state = w; consumed = at; written = written; output = out }
leaves (Takes t) at written out =
    record {
      course = GoesOn;
      state = t.after;
      consumed = consumed_by t.source at;
      written = written + length (bytes_of_all t.records);
      output = overwrite written (bytes_of_all t.records) out;
    }

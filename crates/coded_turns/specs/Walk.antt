-- A walk: turns of a reading that are taken one after the other, each an accepted step
use Rattle.std.specs.Prelude.{◌+◌, ◌-◌, ◌<◌, ◌≤◌, ◌≡◌}
use Rattle.coded_turns.specs.Prelude.{ℕ, zero, suc, List, length, drop, get_or, set, ltb}
use Rattle.rules.specs.declared.Cursor.{Cursor}
use Rattle.rules.specs.declared.Drawing.{Drawing}
use Rattle.rules.specs.declared.Text.{Text}
use Rattle.rules.specs.Numbers.{room_for_step}
use Rattle.rules.specs.Bodies.{nowhere, body_at}
use Rattle.rules.specs.Record.{bytes_of_all}
use Rattle.rules.specs.Step.{State, remove_spent}
use Rattle.rules.specs.Turn.{Taken, Takes, turn}
use Rattle.rules.specs.Reading.{consumed_by, steps_left, Valid}
use Rattle.pens.specs.Tips.{pen_of}
use Rattle.records.specs.Bytes.{overwrite}
use Rattle.store.specs.Lent.{Sized}
use Rattle.store.specs.Stretch.{on_by, Gives}
use Rattle.bodies.specs.Stack.{bodies_of}
use Rattle.figures.specs.Carried.{drawing_of}
use Rattle.progress.specs.declared.Progress.{Progress}
use Rattle.steps.specs.View.{state_at}
use Rattle.progress.specs.declared.Reached.{Reached}

-- Where a reading stands: its state, the place of the piece, the place of the output, and the output
pub record Place : Type 0 where
  pub state : State
  pub at : ℕ
  pub written : ℕ
  pub output : List ℕ

abbrev pub placed : State → ℕ → ℕ → List ℕ → Place
placed w at written out = record { state = w; at = at; written = written; output = out }

abbrev pub place_at : ℕ → Progress → List Cursor → List ℕ → Drawing → List ℕ → List ℕ → Place
place_at budget p cursors firsts d st out = placed (state_at budget p cursors firsts d st) p.at p.written out

abbrev pub reached_at : ℕ → Reached → Text → List Cursor → List ℕ → List ℕ → List ℕ → List ℕ → Place
reached_at budget r text cursors firsts map st out =
    place_at budget r.progress cursors firsts (drawing_of (pen_of text r.tip) r.command r.look map) st out

pub data Walk (piece : List ℕ) (x : Place) : Place → Type 0 where
  none : Walk piece x x
  removed : {y : Place} → Walk piece x y → Walk piece x (placed (remove_spent y.state) y.at y.written y.output)
  step : {y : Place} {n : ℕ} {t : Taken} → Walk piece x y → steps_left y.state ≡ suc n
      → turn (ltb (length y.output - y.written) room_for_step) (suc n) y.state (drop y.at piece) ≡ Takes t
      → Walk piece x
      (placed t.after (consumed_by t.source y.at) (y.written + length (bytes_of_all t.records))
      (overwrite y.written (bytes_of_all t.records) y.output))

-- What is asked of where a reading stands: the state passes the tests before a feed, and the places are within the piece and the output
pub record Stands (piece : List ℕ) (x : Place) : Type 0 where
  pub sound : Valid x.state
  pub on : x.at ≤ length piece
  pub within : x.written ≤ length x.output

-- What is asked of a progress that runs begin from
pub record Fit (p : Progress) (st piece out : List ℕ) : Type 0 where
  pub store : Sized st
  pub depth : p.depth ≤ 8
  pub on : p.at ≤ length piece
  pub within : p.written ≤ length out

-- The bytes that a run reads from: the piece where no body runs, else the store
abbrev pub source_of : ℕ → List ℕ → List ℕ → List ℕ
source_of zero piece st = piece
source_of (suc i) piece st = st

-- So many bytes on in the innermost body's cell
abbrev pub cursors_after : ℕ → ℕ → List Cursor → List Cursor
cursors_after zero n cursors = cursors
cursors_after (suc i) n cursors = set cursors i (on_by n (get_or cursors i nowhere))

-- The places are bytes
abbrev pub Passes : ℕ → ℕ → List Cursor → Type 0
Passes d n cursors = (i : ℕ) → d ≡ suc i → (i < length cursors) × ((get_or cursors i nowhere).place + n < 256) × (n < 256)

-- The bytes that are read next, with the piece at a place, lie from here to there in their source
pub record Lies (d at : ℕ) (cursors : List Cursor) (st piece : List ℕ) (from to : ℕ) : Type 0 where
  pub order : from ≤ to
  pub within : to ≤ length (source_of d piece st)
  pub start : d ≡ 0 → from ≡ at
  pub passes : (n : ℕ) → from + n ≤ to → Passes d n cursors
  pub gives : (i : ℕ) → d ≡ suc i → (k : ℕ) → from + k < to → Gives st (body_at (bodies_of (suc i) cursors) i) from k

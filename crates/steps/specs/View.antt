-- The state of a reading as the code holds it: in parts, with the drawing state and the arrays beside them
use Rattle.std.specs.Prelude.{◌≤◌, ◌<◌, ◌≡◌, Result, Ok, Err}
use Rattle.steps.specs.Prelude.{ℕ, Bool, true, false, List}
use Rattle.rules.specs.declared.Bodies.{Bodies}
use Rattle.rules.specs.declared.Coding.{Coding}
use Rattle.rules.specs.declared.Cursor.{Cursor}
use Rattle.rules.specs.declared.Drawing.{Drawing}
use Rattle.rules.specs.declared.Status.TheVariants.{Running, Stopped}
use Rattle.rules.specs.declared.Text.{Text}
use Rattle.rules.specs.declared.Answer.{Answer}
use Rattle.rules.specs.declared.Answer.TheVariants.{Done, Full, Refused}
use Rattle.rules.specs.Numbers.{room_for_step}
use Rattle.rules.specs.Bodies.{depth_left}
use Rattle.rules.specs.Drawing.{act}
use Rattle.rules.specs.Step.{State, state_of, with_status, on_outcome}
use Rattle.rules.specs.Reading.{consumed_by}
use Rattle.bodies.specs.Stack.{bodies_of, DepthAfter}
use Rattle.reactions.specs.View.{coding_of, sets_after}
use Rattle.reactions.specs.declared.Reacted.{Reacted}
use Rattle.steps.specs.Leaving.{source_at, read_on, step_by, Left, leaves}
use Rattle.steps.specs.declared.Course.{Course}
use Rattle.steps.specs.declared.Course.TheVariants.{GoesOn, Ends, Draws}
use Rattle.progress.specs.declared.Progress.{Progress}
use Rattle.steps.specs.declared.Turned.{Turned}
use Rattle.progress.specs.Progress.{steps_to}
use Rattle.progress.specs.declared.Reached.{Reached}
use Rattle.figures.specs.declared.TooManyVertices.{TooManyVertices}
use Rattle.figures.specs.Carried.{Carried, drawing_of}
use Rattle.pens.specs.Tips.{pen_of}

abbrev pub state_at : ℕ → Progress → List Cursor → List ℕ → Drawing → List ℕ → State
state_at budget p cursors firsts d st =
    state_of budget p.steps Running (bodies_of p.depth cursors) (coding_of p.sets p.waiting firsts) d st

-- No body that runs is spent
abbrev pub NoneSpent : ℕ → List Cursor → List ℕ → Type 0
NoneSpent d cursors st = depth_left st (bodies_of d cursors) d ≡ d

-- The coding layer after a byte and its reaction
abbrev pub coding_after : Reacted → Progress → List ℕ → Coding
coding_after r p firsts = coding_of (sets_after r.effect p.sets) r.waiting firsts

-- "A refused step changes nothing but the stop"
abbrev pub answered : Answer → State → State
answered Done w = w
answered Full w = w
answered (Refused r) w = with_status (Stopped r) w

-- What a turn leaves by its course, from the progress p to q. One that ends the reading leaves p. Where an action is to be drawn, that is
-- what drawing it leaves, the innermost body then read on at x
abbrev pub left_by : Course → ℕ → Progress → Progress → List Cursor → List ℕ → Drawing → List ℕ → List ℕ → Left
left_by GoesOn budget p q cursors firsts d st out =
    record {
      course = GoesOn;
      state = state_at budget q cursors firsts d st;
      consumed = q.at;
      written = q.written;
      output = out;
    }
left_by (Ends a) budget p q cursors firsts d st out =
    record {
      course = Ends a;
      state = answered a (state_at budget p cursors firsts d st);
      consumed = p.at;
      written = p.written;
      output = out;
    }
left_by (Draws a x) budget p q cursors firsts d st out =
    leaves
    (step_by p.depth x (on_outcome (act a d) a (coding_of q.sets q.waiting firsts) st) (state_at budget p cursors firsts d st))
    p.at p.written out

abbrev pub left_of : ℕ → Progress → Turned → List Cursor → List ℕ → Drawing → List ℕ → List ℕ → Left
left_of budget p r cursors firsts d st out =
    left_by r.course budget p r.progress cursors firsts d st out

-- Where an action is to be drawn, q is the progress of an accepted step from p
abbrev pub DrawDueBy : Course → Progress → Progress → Type 0
DrawDueBy GoesOn p q = Unit
DrawDueBy (Ends a) p q = Unit
DrawDueBy (Draws a x) p q =
    (q ≡ steps_to (consumed_by (source_at p.depth) p.at) q.depth q.sets q.waiting p)
    × DepthAfter a p.depth q.depth × (p.depth ≤ 8)

abbrev pub DrawDue : Progress → Turned → Type 0
DrawDue p r = DrawDueBy r.course p r.progress

-- and the output has room for a step
abbrev pub RoomBy : Course → ℕ → Type 0
RoomBy GoesOn n = Unit
RoomBy (Ends a) n = Unit
RoomBy (Draws a x) n = room_for_step ≤ n

-- What drawing an action leaves, for where the reading stood: the drawing state, the output and the place after its records
abbrev pub drawn_of : Result Reached TooManyVertices → Reached → Text → List ℕ → List ℕ → Carried
drawn_of (Ok r) x t map out =
    record {
      refused = false;
      drawing = drawing_of (pen_of t r.tip) r.command r.look map;
      at = r.progress.written;
      output = out;
    }
drawn_of (Err e) x t map out =
    record {
      refused = true;
      drawing = drawing_of (pen_of t x.tip) x.command x.look map;
      at = x.progress.written;
      output = out;
    }

-- The innermost body is read on unless the action was refused
abbrev pub read_on_if : Bool → ℕ → Cursor → Bodies → Bodies
read_on_if true d x y = y
read_on_if false d x y = read_on d x y

-- What is asked of a step that is due: bodies to hold, a count to go up, and the place of the piece once its byte is read
pub record Ready (p : Progress) (n : ℕ) : Type 0 where
  pub depth : p.depth ≤ 8
  pub steps : p.steps < 4294967295
  pub after : n ≡ consumed_by (source_at p.depth) p.at

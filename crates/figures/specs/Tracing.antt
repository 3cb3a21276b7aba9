-- Points applied and commands finished: the figure of each, whatever the look
use Rattle.std.specs.Prelude.{◌||◌, ◌∷◌, ◌≡◌, ℕ, Bool, true, false, List, [], ltb, eqb}
use Rattle.rules.specs.declared.Command.{Command}
use Rattle.rules.specs.declared.Drawing.{Drawing}
use Rattle.rules.specs.declared.Look.{Look}
use Rattle.rules.specs.declared.Operand.{Operand}
use Rattle.rules.specs.declared.Pen.{Pen}
use Rattle.rules.specs.declared.Point.{Point}
use Rattle.rules.specs.declared.Record.{Record}
use Rattle.rules.specs.declared.Role.{Role}
use Rattle.rules.specs.declared.Role.TheVariants.{MoveTo, DrawTo, DrawBy, Middle, ArcEnd, Start, Edge, StepSize, LineCodes, PolygonCodes, Lengths, Pel, TextFirst, TextSecond, TextField, TextMore, Foreground, Background, Shade, Dropped}
use Rattle.rules.specs.declared.Text.{Text}
use Rattle.rules.specs.Numbers.{most_vertices, origin}
use Rattle.rules.specs.Choice.{pick}
use Rattle.rules.specs.Operands.{displaced, displaced_out}
use Rattle.rules.specs.Record.{flags, record_of, figure}
use Rattle.rules.specs.Text.{follow}
use Rattle.rules.specs.Drawing.{Outcome, Draw}
use Rattle.records.specs.declared.Head.{Head}
use Rattle.records.specs.Bytes.{head_of, head_bytes}
use Rattle.figures.specs.declared.tracing.Figure.{Figure}
use Rattle.figures.specs.Carried.{drawing_of}

-- The head of a look's records, their kind, flags, set and code not yet put in, and its pel
pub record Inks (ink : Head) (pel : Point) (l : Look) : Type 0 where
  pub head : (p q r : Point) → head_bytes ink ≡ head_of (record_of l 0 0 0 0 p q r)
  pub size : pel ≡ l.domain.pel

-- A pen at a point, with its text, and an operand begun or not
abbrev pub pen_at : Point → Text → Operand → Pen
pen_at p t o = record { point = p; text = t; operand = o }

-- A pen whose drawing point was moved, or was not
abbrev pub moved_if : Bool → Point → Pen → Pen
moved_if true q s = follow q s
moved_if false q s = s

-- The record of a figure; one of kind 0 has none
unfoldable pub figure_records : Look → Figure → List Record
figure_records l f = pick (eqb f.kind 0) [] (figure l f.kind f.flags f.p0 f.p1 f.p2 ∷ [])

-- A figure by one or two points
abbrev pub span_figure : ℕ → ℕ → Point → Point → Figure
span_figure kind marks p q = record { kind = kind; flags = marks; p0 = p; p1 = q; p2 = origin }

-- The arc to q by the start and the middle that a command keeps
abbrev pub arc_figure : Bool → Bool → Point → Command → Figure
arc_figure filled w q c =
    record { kind = 3; flags = flags filled (c.noted || w) false; p0 = c.start; p1 = c.kept; p2 = q }

-- A rule draws a figure: from the drawing point p with c open it moves to the drawing point q, or moves not, with c' open, whatever
-- the text is and whatever is begun
abbrev pub DrawsFigure : (Drawing → Outcome) → Look → Point → Command → Figure → Bool → Point → Command → Type 0
DrawsFigure rule l p c f w q c' =
    (t : Text) (o : Operand) (m : List ℕ)
    → rule (drawing_of (pen_at p t o) c l m) ≡ Draw (drawing_of (moved_if w q (pen_at p t o)) c' l m) (figure_records l f)

-- SELECT COLOUR with no operand and TEXT, which finish with another look or another text and draw no figure
unfoldable pub finishes_apart : Role → Bool
finishes_apart MoveTo = false
finishes_apart DrawTo = false
finishes_apart DrawBy = false
finishes_apart Middle = false
finishes_apart ArcEnd = false
finishes_apart Start = false
finishes_apart Edge = false
finishes_apart StepSize = false
finishes_apart LineCodes = false
finishes_apart PolygonCodes = false
finishes_apart Lengths = false
finishes_apart Pel = false
finishes_apart TextFirst = true
finishes_apart TextSecond = true
finishes_apart TextField = true
finishes_apart TextMore = true
finishes_apart Foreground = true
finishes_apart Background = false
finishes_apart Shade = false
finishes_apart Dropped = false

-- The roles due of a command that draws a polygon, once its start is known: an edge closes it
unfoldable pub is_polygon : Role → Bool
is_polygon MoveTo = false
is_polygon DrawTo = false
is_polygon DrawBy = false
is_polygon Middle = false
is_polygon ArcEnd = false
is_polygon Start = false
is_polygon Edge = true
is_polygon StepSize = false
is_polygon LineCodes = false
is_polygon PolygonCodes = true
is_polygon Lengths = false
is_polygon Pel = false
is_polygon TextFirst = false
is_polygon TextSecond = false
is_polygon TextField = false
is_polygon TextMore = false
is_polygon Foreground = false
is_polygon Background = false
is_polygon Shade = false
is_polygon Dropped = false

-- The operands that are counted from the drawing point
unfoldable pub is_relative : Role → Bool
is_relative MoveTo = false
is_relative DrawTo = false
is_relative DrawBy = true
is_relative Middle = true
is_relative ArcEnd = true
is_relative Start = false
is_relative Edge = true
is_relative StepSize = false
is_relative LineCodes = false
is_relative PolygonCodes = false
is_relative Lengths = false
is_relative Pel = false
is_relative TextFirst = false
is_relative TextSecond = false
is_relative TextField = false
is_relative TextMore = false
is_relative Foreground = false
is_relative Background = false
is_relative Shade = false
is_relative Dropped = false

-- The point an operand leads to, and whether a sum for it left the range
abbrev pub aim : Role → Point → Point → Point
aim n p v = pick (is_relative n) (displaced p v) v

abbrev pub strays : Role → Point → Point → Bool
strays n p v = pick (is_relative n) (displaced_out p v) false

-- The operands that are points and not refused, with so many vertices read
unfoldable pub is_point : Role → ℕ → Bool
is_point MoveTo n = true
is_point DrawTo n = true
is_point DrawBy n = true
is_point Middle n = true
is_point ArcEnd n = true
is_point Start n = true
is_point Edge n = ltb n most_vertices
is_point StepSize n = false
is_point LineCodes n = false
is_point PolygonCodes n = false
is_point Lengths n = false
is_point Pel n = false
is_point TextFirst n = false
is_point TextSecond n = false
is_point TextField n = false
is_point TextMore n = false
is_point Foreground n = false
is_point Background n = false
is_point Shade n = false
is_point Dropped n = false

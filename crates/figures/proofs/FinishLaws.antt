-- Figures that finish commands, as the rules draw them.
use Rattle.std.specs.Prelude.{◌≤◌, ◌<◌, ◌≡◌}
use Rattle.std.proofs.Common.{ℕ, refl, ◌∙◌, Bool, true, false, List, [], lt-ltb, le-ltb}
use Rattle.rules.specs.declared.Command.{Command}
use Rattle.rules.specs.declared.Drawing.{Drawing}
use Rattle.rules.specs.declared.Look.{Look}
use Rattle.rules.specs.declared.Operand.{Operand}
use Rattle.rules.specs.declared.Point.{Point}
use Rattle.rules.specs.declared.Role.{Role}
use Rattle.rules.specs.declared.Role.TheVariants.{MoveTo, DrawTo, DrawBy, Middle, ArcEnd, Start, Edge, StepSize, LineCodes, PolygonCodes, Lengths, Pel, TextFirst, TextSecond, TextField, TextMore, Foreground, Background, Shade, Dropped}
use Rattle.rules.specs.declared.Text.{Text}
use Rattle.rules.specs.Record.{flags}
use Rattle.rules.specs.Text.{follow}
use Rattle.rules.specs.Drawing.{Draw, arc_to, closing_edge, finish}
use Rattle.rules.proofs.Bools.{true_false, false_true}
use Rattle.figures.specs.declared.tracing.Figure.{Figure}
use Rattle.figures.specs.Carried.{drawing_of}
use Rattle.figures.specs.Tracing.{pen_at, figure_records, span_figure, arc_figure, finishes_apart, is_polygon}

-- A polygon finishes by its closing edge
polygon_closes : (n : Role) (filled : Bool) (d : Drawing) → is_polygon n ≡ true → finish n filled d ≡ closing_edge filled d
unfolding finish is_polygon
polygon_closes MoveTo filled d q = false_true q
polygon_closes DrawTo filled d q = false_true q
polygon_closes DrawBy filled d q = false_true q
polygon_closes Middle filled d q = false_true q
polygon_closes ArcEnd filled d q = false_true q
polygon_closes Start filled d q = false_true q
polygon_closes Edge filled d q = refl
polygon_closes StepSize filled d q = false_true q
polygon_closes LineCodes filled d q = false_true q
polygon_closes PolygonCodes filled d q = refl
polygon_closes Lengths filled d q = false_true q
polygon_closes Pel filled d q = false_true q
polygon_closes TextFirst filled d q = false_true q
polygon_closes TextSecond filled d q = false_true q
polygon_closes TextField filled d q = false_true q
polygon_closes TextMore filled d q = false_true q
polygon_closes Foreground filled d q = false_true q
polygon_closes Background filled d q = false_true q
polygon_closes Shade filled d q = false_true q
polygon_closes Dropped filled d q = false_true q

-- The roles but an arc's end and a polygon's finish with nothing, or with another look or text
finish_nothing : (n : Role) (filled : Bool) (d : Drawing) → (n ≡ ArcEnd → ⊥) → finishes_apart n ≡ false → is_polygon n ≡ false → finish n filled d ≡ Draw d []
unfolding finish finishes_apart is_polygon
finish_nothing MoveTo filled d k h q = refl
finish_nothing DrawTo filled d k h q = refl
finish_nothing DrawBy filled d k h q = refl
finish_nothing Middle filled d k h q = refl
finish_nothing ArcEnd filled d k h q = absurd (k refl)
finish_nothing Start filled d k h q = refl
finish_nothing Edge filled d k h q = true_false q
finish_nothing StepSize filled d k h q = refl
finish_nothing LineCodes filled d k h q = refl
finish_nothing PolygonCodes filled d k h q = true_false q
finish_nothing Lengths filled d k h q = refl
finish_nothing Pel filled d k h q = refl
finish_nothing TextFirst filled d k h q = true_false h
finish_nothing TextSecond filled d k h q = true_false h
finish_nothing TextField filled d k h q = true_false h
finish_nothing TextMore filled d k h q = true_false h
finish_nothing Foreground filled d k h q = true_false h
finish_nothing Background filled d k h q = refl
finish_nothing Shade filled d k h q = refl
finish_nothing Dropped filled d k h q = refl

-- A command finishes by the figure g
module _ (n : Role) (filled : Bool) (p : Point) (t : Text) (o : Operand) (c : Command) (l : Look) (m : List ℕ) (g : Figure) where
  -- An arc with no end is a circle
  pub finish_arc : n ≡ ArcEnd → g ≡ arc_figure filled false c.start c
      → finish n filled (drawing_of (pen_at p t o) c l m) ≡ Draw (drawing_of (follow c.start (pen_at p t o)) c l m) (figure_records l g)
  unfolding finish arc_to figure_records
  finish_arc h i = rw (h, i)

  -- A polygon with edges, and one with none
  pub finish_edge : is_polygon n ≡ true → (f : ℕ) → f ≡ flags filled false true → g ≡ span_figure 5 f p c.start → 1 < c.vertices
      → finish n filled (drawing_of (pen_at p t o) c l m) ≡ Draw (drawing_of (follow c.start (pen_at p t o)) c l m) (figure_records l g)
  unfolding closing_edge figure_records
  finish_edge h f e i k =
      polygon_closes n filled (drawing_of (pen_at p t o) c l m) h ∙ rw (i, e, lt-ltb 1 c.vertices k)

  pub finish_edgeless : is_polygon n ≡ true → g ≡ span_figure 0 0 p c.start → c.vertices ≤ 1
      → finish n filled (drawing_of (pen_at p t o) c l m) ≡ Draw (drawing_of (pen_at p t o) c l m) (figure_records l g)
  unfolding closing_edge figure_records
  finish_edgeless h i k = polygon_closes n filled (drawing_of (pen_at p t o) c l m) h ∙ rw (i, le-ltb 1 c.vertices k)

  pub finish_plain : (n ≡ ArcEnd → ⊥) → finishes_apart n ≡ false → is_polygon n ≡ false → g ≡ span_figure 0 0 p c.start
      → finish n filled (drawing_of (pen_at p t o) c l m) ≡ Draw (drawing_of (pen_at p t o) c l m) (figure_records l g)
  unfolding figure_records
  finish_plain k h q i = rw i (finish_nothing n filled (drawing_of (pen_at p t o) c l m) k h q)

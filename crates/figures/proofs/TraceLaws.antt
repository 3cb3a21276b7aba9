-- Figures of points, as the rules draw them.
use Rattle.std.specs.Prelude.{◌+◌, ◌<◌, ◌≡◌, ◌∷◌, ◌++◌}
use Rattle.std.proofs.Common.{ℕ, refl, sym, ap, add-one, Bool, true, false, List, [], set, eq-eqb, ne_eqb, ltb-true}
use Rattle.rules.specs.declared.Command.{Command}
use Rattle.rules.specs.declared.Drawing.{Drawing}
use Rattle.rules.specs.declared.Look.{Look}
use Rattle.rules.specs.declared.Operand.{Operand}
use Rattle.rules.specs.declared.Point.{Point}
use Rattle.rules.specs.declared.Refusal.TheVariants.{TooManyVertices}
use Rattle.rules.specs.declared.Role.{Role}
use Rattle.rules.specs.declared.Role.TheVariants.{MoveTo, DrawTo, DrawBy, Middle, ArcEnd, Start, Edge, StepSize, LineCodes, PolygonCodes, Lengths, Pel, TextFirst, TextSecond, TextField, TextMore, Foreground, Background, Shade, Dropped}
use Rattle.rules.specs.declared.Row.{Row}
use Rattle.rules.specs.declared.Text.{Text}
use Rattle.rules.specs.Numbers.{most_vertices, origin}
use Rattle.rules.specs.Operands.{point}
use Rattle.rules.specs.Record.{words, bytes_of, flags, record_of, figure}
use Rattle.rules.specs.Text.{follow}
use Rattle.rules.specs.Drawing.{Outcome, NotDrawn, Draw, with_start, with_vertices, apply, draw_figure, arc_middle, arc_to, edge_by}
use Rattle.rules.proofs.Bools.{true_false, false_true, pick_yes, pick_no}
use Rattle.records.specs.declared.Head.{Head}
use Rattle.records.specs.Bytes.{overwrite, head_bytes}
use Rattle.records.proofs.Heads.{record_bytes, head_kind}
use Rattle.figures.specs.declared.tracing.Figure.{Figure}
use Rattle.figures.specs.Carried.{Puts, carry, drawing_of}
use Rattle.figures.proofs.Carrying.{puts_none, puts_one}
use Rattle.figures.specs.Tracing.{Inks, pen_at, figure_records, span_figure, arc_figure, is_relative, aim, strays, is_point}

-- The bytes of a figure, its head made from the ink
pub figure_bytes : (g ink : Head) (l : Look) (kind f : ℕ) (p q r pel : Point)
    → Inks ink pel l
    → head_bytes g ≡ set (set (head_bytes ink) 0 kind) 1 f
    → head_bytes g ++ words p ++ words q ++ words r ++ words pel ≡ bytes_of (figure l kind f p q r)
unfolding figure record_of
figure_bytes g ink l kind f p q r pel k e =
    rw k.size (record_bytes (record_of l kind f 0 0 p q r) g (head_kind g ink l 0 0 kind f 0 0 p q r (k.head p q r) e))

-- A figure's record is written, if it has one
module _ (l : Look) (f : Figure) (at : ℕ) (out : List ℕ) where
  pub put_none : f.kind ≡ 0 → Puts (figure_records l f) at out at out
  unfolding figure_records
  put_none h = rw (pick_yes [] (figure l f.kind f.flags f.p0 f.p1 f.p2 ∷ []) (eq-eqb f.kind 0 h)) (puts_none at out)

  pub put_one : (f.kind ≡ 0 → ⊥) → (out' : List ℕ) → out' ≡ overwrite at (bytes_of (figure l f.kind f.flags f.p0 f.p1 f.p2)) out
      → Puts (figure_records l f) at out (at + 40) out'
  unfolding figure_records
  put_one h out' w =
      let r = figure l f.kind f.flags f.p0 f.p1 f.p2 in
      rw (pick_no [] (r ∷ []) (ne_eqb f.kind 0 h)) (puts_one r at out out' w)

-- Figures of a kind from p to q, which is the figure g
module _ (kind : ℕ) (filled w : Bool) (q p : Point) (t : Text) (o : Operand) (c : Command) (l : Look) (m : List ℕ) (f : ℕ) (e : f ≡ flags filled w false) (g : Figure) where
  pub stroke_point : kind ≡ 1 → g ≡ span_figure 1 f q origin → draw_figure kind filled w q (drawing_of (pen_at p t o) c l m) ≡ Draw (drawing_of (follow q (pen_at p t o)) c l m) (figure_records l g)
  unfolding draw_figure figure_records
  stroke_point h i = rw (i, e, h)

  pub stroke_line : kind ≡ 2 → g ≡ span_figure 2 f p q → draw_figure kind filled w q (drawing_of (pen_at p t o) c l m) ≡ Draw (drawing_of (follow q (pen_at p t o)) c l m) (figure_records l g)
  unfolding draw_figure figure_records
  stroke_line h i = rw (i, e, h)

  pub stroke_rectangle : kind ≡ 4 → g ≡ span_figure 4 f p q
      → draw_figure kind filled w q (drawing_of (pen_at p t o) c l m) ≡ Draw (drawing_of (follow (record { x = q.x; y = p.y }) (pen_at p t o)) c l m) (figure_records l g)
  unfolding draw_figure figure_records
  stroke_rectangle h i = rw (i, e, h)

  pub stroke_none : (kind ≡ 1 → ⊥) → (kind ≡ 2 → ⊥) → (kind ≡ 4 → ⊥) → g ≡ span_figure 0 f p q
      → draw_figure kind filled w q (drawing_of (pen_at p t o) c l m) ≡ Draw (drawing_of (follow q (pen_at p t o)) c l m) (figure_records l g)
  unfolding draw_figure figure_records
  stroke_none h i j k = rw (k, ne_eqb kind 1 h, ne_eqb kind 2 i, ne_eqb kind 4 j)

pub edge_room : (n : Role) (k : ℕ) → n ≡ Edge → is_point n k ≡ true → k < most_vertices
unfolding is_point
edge_room n k h e = ltb-true k most_vertices (rw h at e)

-- A point is refused for its vertices only
refused_point : (n : Role) (row : Row) (bs : List ℕ) (d : Drawing) → is_point n 0 ≡ true → is_point n d.command.vertices ≡ false → apply n row bs d ≡ NotDrawn TooManyVertices
unfolding apply is_point edge_by
refused_point MoveTo row bs d h k = true_false k
refused_point DrawTo row bs d h k = true_false k
refused_point DrawBy row bs d h k = true_false k
refused_point Middle row bs d h k = true_false k
refused_point ArcEnd row bs d h k = true_false k
refused_point Start row bs d h k = true_false k
refused_point Edge row bs d h k = pick_no _ _ k
refused_point StepSize row bs d h k = false_true h
refused_point LineCodes row bs d h k = false_true h
refused_point PolygonCodes row bs d h k = false_true h
refused_point Lengths row bs d h k = false_true h
refused_point Pel row bs d h k = false_true h
refused_point TextFirst row bs d h k = false_true h
refused_point TextSecond row bs d h k = false_true h
refused_point TextField row bs d h k = false_true h
refused_point TextMore row bs d h k = false_true h
refused_point Foreground row bs d h k = false_true h
refused_point Background row bs d h k = false_true h
refused_point Shade row bs d h k = false_true h
refused_point Dropped row bs d h k = false_true h

pub point_refused : (n : Role) (row : Row) (bs : List ℕ) (d : Drawing) (at : ℕ) (out : List ℕ) → is_point n 0 ≡ true → is_point n d.command.vertices ≡ false
    → record { refused = true; drawing = d; at = at; output = out } ≡ carry (apply n row bs d) d at out
unfolding carry
point_refused n row bs d at out h k = ap (λ (x : Outcome). carry x d at out) (sym (refused_point n row bs d h k))

-- An operand of a role whose point is v, and the figure g
module _ (n : Role) (row : Row) (bs : List ℕ) (v q : Point) (w : Bool) (p : Point) (t : Text) (o : Operand) (c : Command) (l : Look) (m : List ℕ)
    (a : q ≡ aim n p v) (b : w ≡ strays n p v) (e : v ≡ point l.domain.three bs) where
  module _ (f : ℕ) (g : Figure) where
    pub trace_move : n ≡ MoveTo → g ≡ span_figure 0 f p q → apply n row bs (drawing_of (pen_at p t o) c l m) ≡ Draw (drawing_of (follow q (pen_at p t o)) c l m) (figure_records l g)
    unfolding apply is_relative figure_records
    trace_move h i = rw (i, a, h, e)

    pub trace_start : n ≡ Start → g ≡ span_figure 0 f p q
        → apply n row bs (drawing_of (pen_at p t o) c l m) ≡ Draw (drawing_of (follow q (pen_at p t o)) (with_start q c.kept c.noted c) l m) (figure_records l g)
    unfolding apply is_relative figure_records
    trace_start h i = rw (i, a, h, e)

    pub trace_middle : n ≡ Middle → g ≡ span_figure 0 f p q
        → apply n row bs (drawing_of (pen_at p t o) c l m) ≡ Draw (drawing_of (follow q (pen_at p t o)) (with_start p q w c) l m) (figure_records l g)
    unfolding apply is_relative arc_middle figure_records
    trace_middle h i = rw (i, a, b, h, e)

    pub trace_arc : n ≡ ArcEnd → g ≡ arc_figure row.filled w q c
        → apply n row bs (drawing_of (pen_at p t o) c l m) ≡ Draw (drawing_of (follow q (pen_at p t o)) c l m) (figure_records l g)
    unfolding apply is_relative arc_to figure_records
    trace_arc h i = rw (i, a, b, h, e)

    pub trace_edge : n ≡ Edge → f ≡ flags row.filled w false → g ≡ span_figure 5 f p q → is_point n c.vertices ≡ true
        → apply n row bs (drawing_of (pen_at p t o) c l m) ≡ Draw (drawing_of (follow q (pen_at p t o)) (with_vertices (c.vertices + 1) c) l m) (figure_records l g)
    unfolding apply is_relative is_point edge_by figure_records
    trace_edge h k i j = rw (i, k, add-one, a, b, h, e) (pick_yes _ _ (rw h at j))

  -- The operands that draw by the row's kind
  pub trace_stroke : (n ≡ MoveTo → ⊥) → (n ≡ Start → ⊥) → (n ≡ Middle → ⊥) → (n ≡ ArcEnd → ⊥) → (n ≡ Edge → ⊥) → is_point n c.vertices ≡ true
      → apply n row bs (drawing_of (pen_at p t o) c l m) ≡ draw_figure row.kind row.filled w q (drawing_of (pen_at p t o) c l m)
  unfolding apply is_relative is_point
  trace_stroke = by n a b
    where
      by : (x : Role) → q ≡ aim x p v → w ≡ strays x p v → (x ≡ MoveTo → ⊥) → (x ≡ Start → ⊥) → (x ≡ Middle → ⊥) → (x ≡ ArcEnd → ⊥) → (x ≡ Edge → ⊥) → is_point x c.vertices ≡ true
          → apply x row bs (drawing_of (pen_at p t o) c l m) ≡ draw_figure row.kind row.filled w q (drawing_of (pen_at p t o) c l m)
      by MoveTo a b f g h i j z = absurd (f refl)
      by DrawTo a b f g h i j z = rw (a, b, e)
      by DrawBy a b f g h i j z = rw (a, b, e)
      by Middle a b f g h i j z = absurd (h refl)
      by ArcEnd a b f g h i j z = absurd (i refl)
      by Start a b f g h i j z = absurd (g refl)
      by Edge a b f g h i j z = absurd (j refl)
      by StepSize a b f g h i j z = false_true z
      by LineCodes a b f g h i j z = false_true z
      by PolygonCodes a b f g h i j z = false_true z
      by Lengths a b f g h i j z = false_true z
      by Pel a b f g h i j z = false_true z
      by TextFirst a b f g h i j z = false_true z
      by TextSecond a b f g h i j z = false_true z
      by TextField a b f g h i j z = false_true z
      by TextMore a b f g h i j z = false_true z
      by Foreground a b f g h i j z = false_true z
      by Background a b f g h i j z = false_true z
      by Shade a b f g h i j z = false_true z
      by Dropped a b f g h i j z = false_true z

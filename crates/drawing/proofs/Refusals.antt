-- The drawing rules refuse with TooManyVertices only; closing refuses before it finishes.
use Rattle.std.specs.Prelude.{◌≡◌, ◌∷◌}
use Rattle.std.proofs.Common.{refl, Bool, List, [], ℕ, suc, ltb, eqb}
use Rattle.rules.specs.declared.Action.{Action}
use Rattle.rules.specs.declared.Action.TheVariants.{Idle, Close, Control, Cancel, Format, Reset, Position, Character, Opcode, Data}
use Rattle.rules.specs.declared.Mode.{Mode}
use Rattle.rules.specs.declared.Mode.TheVariants.{Direct, Mapped, TwoColour}
use Rattle.rules.specs.declared.Outline.{Outline}
use Rattle.rules.specs.declared.Point.{Point}
use Rattle.rules.specs.declared.Drawing.{Drawing}
use Rattle.rules.specs.declared.Row.{Row}
use Rattle.rules.specs.declared.Role.{Role}
use Rattle.rules.specs.declared.Role.TheVariants.{MoveTo, DrawTo, DrawBy, Middle, ArcEnd, Start, Edge, StepSize, LineCodes, PolygonCodes, Lengths, Pel, TextFirst, TextSecond, TextField, TextMore, Foreground, Background, Shade, Dropped}
use Rattle.rules.specs.declared.Refusal.TheVariants.{TooManyVertices}
use Rattle.rules.specs.Numbers.{most_vertices}
use Rattle.rules.specs.Operands.{begun}
use Rattle.rules.specs.Increments.{codes}
use Rattle.rules.specs.Drawing.{row_of, length_of, Outcome, NotDrawn, Draw, prepend, and_then}
use Rattle.rules.specs.Drawing.{draw_figure, arc_middle, arc_to, edge_by, apply_code, apply_codes, shade_map, shade_to, apply, role_due, apply_begun}
use Rattle.rules.specs.Drawing.{with_byte, take_byte, data_byte, complete, finish, close, open_command, act}
use Rattle.rules.proofs.Bools.{pick_all}
use Rattle.rules.proofs.DrawingRanges.{code_all, loose_all}
use Rattle.figures.proofs.Carrying.{Draws}
use Rattle.commands.proofs.ClosingLaws.{finish_draws}

-- A refusal, if it is one, is that of a vertex too many
abbrev pub OnlyVertices : Outcome → Type 0
OnlyVertices (NotDrawn r) = r ≡ TooManyVertices
OnlyVertices (Draw d rs) = Unit {0}

-- Of two actions, the second on the state after the first
then_vertices : (o : Outcome) (k : Drawing → Outcome) → OnlyVertices o → ((e : Drawing) → OnlyVertices (k e)) → OnlyVertices (and_then o k)
unfolding and_then
then_vertices (NotDrawn r) k p f = p
then_vertices (Draw d rs) k p f = by (k d) (f d)
  where
    by : (o : Outcome) → OnlyVertices o → OnlyVertices (prepend rs o)
    by (NotDrawn r) q = q
    by (Draw e qs) q = tt

figure_vertices : (kind : ℕ) (filled w : Bool) (q : Point) (d : Drawing) → OnlyVertices (draw_figure kind filled w q d)
unfolding draw_figure
figure_vertices kind filled w q d =
    pick_all OnlyVertices (eqb kind 1) tt (pick_all OnlyVertices (eqb kind 2) tt (pick_all OnlyVertices (eqb kind 4) tt tt))

edge_vertices : (filled : Bool) (v : Point) (d : Drawing) → OnlyVertices (edge_by filled v d)
unfolding edge_by
edge_vertices filled v d = pick_all OnlyVertices (ltb d.command.vertices most_vertices) tt refl

shade_vertices : (m : Mode) (x y z : ℕ) (d : Drawing) → OnlyVertices (shade_to m x y z d)
unfolding shade_to shade_map
shade_vertices Direct x y z d = tt
shade_vertices Mapped x y z d = tt
shade_vertices TwoColour x y z d = tt

apply_vertices : (x : Role) (r : Row) (bs : List ℕ) (d : Drawing) → OnlyVertices (apply x r bs d)
unfolding apply arc_middle arc_to
apply_vertices MoveTo r bs d = tt
apply_vertices DrawTo r bs d = figure_vertices r.kind r.filled _ _ d
apply_vertices DrawBy r bs d = figure_vertices r.kind r.filled _ _ d
apply_vertices Middle r bs d = tt
apply_vertices ArcEnd r bs d = tt
apply_vertices Start r bs d = tt
apply_vertices Edge r bs d = edge_vertices r.filled _ d
apply_vertices StepSize r bs d = tt
apply_vertices LineCodes r bs d = tt
apply_vertices PolygonCodes r bs d = tt
apply_vertices Lengths r bs d = tt
apply_vertices Pel r bs d = tt
apply_vertices TextFirst r bs d = tt
apply_vertices TextSecond r bs d = tt
apply_vertices TextField r bs d = tt
apply_vertices TextMore r bs d = tt
apply_vertices Foreground r bs d = tt
apply_vertices Background r bs d = tt
apply_vertices Shade r bs d = shade_vertices d.look.colour.mode _ _ _ d
apply_vertices Dropped r bs d = tt

begun_vertices : (r : Row) (d : Drawing) → OnlyVertices (apply_begun r d)
unfolding apply_begun
begun_vertices r d = then_vertices (apply (role_due r d) r (begun d.pen.operand) d) _ (apply_vertices (role_due r d) r _ d) (λ e. tt)

codes_vertices : (o : Outline) (filled : Bool) (cs : List ℕ) (d : Drawing) → OnlyVertices (apply_codes o filled cs d)
unfolding apply_codes
codes_vertices o filled [] d = tt
codes_vertices o filled (c ∷ cs) d =
    then_vertices (apply_code o filled c d) _
    (code_all OnlyVertices o filled c d tt (λ kind. figure_vertices kind filled _ _ d, edge_vertices filled _ d)) (codes_vertices o filled cs)

data_vertices : (r : Row) (b : ℕ) (d : Drawing) → OnlyVertices (data_byte r b d)
unfolding data_byte take_byte
data_vertices r b d =
    let n = length_of (role_due r d) d.look.domain in
    pick_all OnlyVertices (eqb n 0)
    (loose_all OnlyVertices (role_due r d) r.filled b d tt (λ o. codes_vertices o r.filled (codes b) d))
    (pick_all OnlyVertices (ltb (suc d.pen.operand.count) n) tt (begun_vertices r (with_byte b d)))

draws_vertices : (o : Outcome) → Draws o → OnlyVertices o
draws_vertices (NotDrawn r) w = absurd w
draws_vertices (Draw d rs) w = tt

close_vertices : (d : Drawing) → OnlyVertices (close d)
unfolding close complete
close_vertices d =
    let r = row_of d.command.opcode in
    then_vertices (complete r d) _ (pick_all OnlyVertices (eqb d.pen.operand.count 0) tt (begun_vertices r d))
    (λ e. then_vertices (finish (role_due r e) r.filled e) _ (draws_vertices (finish (role_due r e) r.filled e) (finish_draws (role_due r e) r.filled e)) (λ f. tt))

pub act_vertices : (a : Action) (d : Drawing) → OnlyVertices (act a d)
unfolding act open_command
act_vertices Idle d = tt
act_vertices Close d = close_vertices d
act_vertices (Control b) d = then_vertices (close d) _ (close_vertices d) (λ e. tt)
act_vertices (Cancel b) d = then_vertices (close d) _ (close_vertices d) (λ e. tt)
act_vertices (Format f b) d = then_vertices (close d) _ (close_vertices d) (λ e. tt)
act_vertices (Reset b) d = then_vertices (close d) _ (close_vertices d) (λ e. tt)
act_vertices (Position x r c) d = tt
act_vertices (Character x b) d = then_vertices (close d) _ (close_vertices d) (λ e. tt)
act_vertices (Opcode o) d = then_vertices (close d) _ (close_vertices d) (λ e. tt)
act_vertices (Data b) d = data_vertices (row_of d.command.opcode) b d

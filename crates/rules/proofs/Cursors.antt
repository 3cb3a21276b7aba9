-- The cursor that an act leaves is held where it stands, but while TEXT is open or NSR waits, and its field fits there
use Rattle.std.specs.Prelude.{◌+◌, ◌-◌, ◌%◌, ◌^◌, ◌≤◌, ◌≡◌, ◌||◌}
use Rattle.rules.specs.Prelude.{ℕ, zero, suc, arith, refl, sym, ap, ◌∙◌, subst, Bool, true, false, not, List, [], get_or, drop, ltb, leb, eqb, eqb-true, leb-true, leb-false, le-leb, ltb-false}
use Rattle.rules.specs.Types.{Action, Idle, Close, Control·action as Control, Cancel, Format, Reset, Position, Character, Opcode, Data, Point, Pen, Text, Record}
use Rattle.rules.specs.Types.{Due, First, Second, Third, Past, Outline, Drawing, Row, Mode, Direct, Mapped, TwoColour, Reach, Coordinate}
use Rattle.rules.specs.Types.{Rotation, Degrees0, Degrees90, Degrees180, Degrees270, Effector, Apb, Apf, Apd, Apu, Cs, Apr, Aph, Positioning, Aps, Nsr, Repertoire}
use Rattle.rules.specs.Types.{Pattern, A, D, AA, AD, ArcDD, ArcADD, PolygonD, PolygonAD, IncrementalLine, IncrementalPolygon, Domain·pattern, Text·pattern, SelectColour, SetColour, Skipped}
use Rattle.rules.specs.Types.{Role, MoveTo, DrawTo, DrawBy, Middle, ArcEnd, Start, Edge, StepSize, LineCodes, PolygonCodes, Lengths, Pel, TextFirst, TextSecond, TextField, TextMore, Foreground}
use Rattle.rules.specs.Types.{Background, Shade·role as Shade, Dropped}
use Rattle.rules.specs.Numbers.{most_vertices, screen_side}
use Rattle.rules.specs.Operands.{begun}
use Rattle.rules.specs.Increments.{codes}
use Rattle.rules.specs.Text.{trunc256, min, max, magnitude, coordinate_of, field_fits, held, turned_box, box_of, field_box, formatted, spaces, typed, placed_by, row_up}
use Rattle.rules.specs.Drawing.{row, other, rows, row_of, role_of, with_pen, marked, Outcome, NotDrawn, Draw, and_then}
use Rattle.rules.specs.Drawing.{draw_figure, arc_middle, arc_to, edge_by, apply_code, shade_map, shade_to, apply, role_due, apply_begun}
use Rattle.rules.specs.Drawing.{with_byte, loose_byte, take_byte, data_byte, complete, has_edge, closing_edge, finish, closed, close, open_command, act, fresh_drawing}
use Rattle.rules.specs.Statements.{OnGrid, text_open, FitsAt, fits_there, last_place, FieldFits}
use Rattle.rules.proofs.Bools.{true_false, and_both, by_test, pick_all, pick_by}
use Rattle.rules.proofs.Tables.{entry_passes}
use Rattle.rules.proofs.TextLaws.{kept_edge, kept_last, le_kept, max_right, box_fits, Stays, advance_stays, apb_stays, row_stays, home_stays, apr_stays, apd_stays, close_stays, addressed_stays, positioned_stays, follow_stays}
use Rattle.rules.proofs.DrawingRanges.{Drawn, drawn_map, then_drawn, nth_all, code_all, codes_drawn, loose_all, finish_all}
use Rattle.rules.proofs.Multiples.{Below}

-- The field fits where the cursor is held

reach_fits : (r : Reach) (c : ℕ) → r.before ≤ c → c ≤ screen_side - r.after → FitsAt r c
unfolding field_fits
reach_fits r c h k =
    fits_there (and_both (le-leb 0 c (omega arith)) (and_both (le-leb r.before (c - 0) (omega arith)) (le-leb (c - 0) (screen_side - r.after) (omega arith))))

held_fits : (r : Reach) (p : Coordinate) → r.before % 256 ≡ 0 → r.before + r.after ≤ screen_side → FitsAt r (held r p)
unfolding held trunc256
held_fits r p m s =
    let v = p.ahead - p.back in
    by_test (leb r.before (screen_side - 256))
    (λ e.
    let h = leb-true r.before (screen_side - 256) e in
    let k = le_kept r v r.before (max_right v r.before) (omega arith) h in
    reach_fits r (held r p) (omega (arith, k, m)) (omega (arith, kept_edge r v)))
    (λ e.
    let h = leb-false r.before (screen_side - 256) e in
    let k = le_kept r v (screen_side - 256) (omega (arith, max_right v r.before)) (omega arith) (omega arith) in
    last_place (omega arith) (omega (arith, k, kept_last r v)))

magnitude_multiple : (n : ℕ) → n % 256 ≡ 0 → magnitude n % 256 ≡ 0
unfolding magnitude
magnitude_multiple n h = pick_all (λ (k : ℕ). k % 256 ≡ 0) (ltb n (2 ^ 31)) h (omega arith)

box_multiple : (a : Rotation) (f : Point) → OnGrid f → ((box_of a f).x.before % 256 ≡ 0) × ((box_of a f).y.before % 256 ≡ 0)
unfolding box_of turned_box
box_multiple Degrees0 f h = (refl, refl)
box_multiple Degrees90 f h = (magnitude_multiple f.y h.1, refl)
box_multiple Degrees180 f h = (magnitude_multiple f.x h.0, magnitude_multiple f.y h.1)
box_multiple Degrees270 f h = (refl, magnitude_multiple f.x h.0)

pub stays_fits : (t : Text) → Stays t → Below (2 ^ 32) t.field → FieldFits t
stays_fits t k f =
    let m = box_multiple t.settings.rotation t.field f.grid in
    let s = box_fits t.settings.rotation t.field f.below.0 f.below.1 in
    (subst (FitsAt (field_box t).x) k.0 (held_fits (field_box t).x (coordinate_of t.cursor.x) m.0 s.0), subst (FitsAt (field_box t).y) k.1 (held_fits (field_box t).y (coordinate_of t.cursor.y) m.1 s.1))

-- Held where it stands, where a test fails
abbrev pub HeldUnless : Bool → Text → Type 0
HeldUnless true t = Unit {0}
HeldUnless false t = Stays t

abbrev pub Settled : Drawing → Type 0
Settled d = HeldUnless (text_open d) d.pen.text

abbrev StaysIn : Drawing → Type 0
StaysIn d = Stays d.pen.text

abbrev TextIn : Drawing → Type 0
TextIn d = text_open d ≡ true

held_unless : (t : Bool) (x : Text) → Stays x → HeldUnless t x
held_unless true x k = tt
held_unless false x k = k

stays_settled : (d : Drawing) → StaysIn d → Settled d
stays_settled d k = held_unless (text_open d) d.pen.text k

text_settled : (d : Drawing) → TextIn d → Settled d
text_settled d e = subst (λ (t : Bool). HeldUnless t d.pen.text) (sym e) tt

settled_stays : (d : Drawing) → text_open d ≡ false → Settled d → StaysIn d
settled_stays d e h = subst (λ (t : Bool). HeldUnless t d.pen.text) e h

-- What holds of every state
drawn_all : {P : Drawing → Type 0} → ((e : Drawing) → P e) → (o : Outcome) → Drawn P o
drawn_all f (NotDrawn r) = tt
drawn_all f (Draw d rs) = f d

-- The row of TEXT, and those of the other commands

abbrev text_row : Row
text_row = row Text·pattern 9 false

text_row_lem : (d : Drawing) → TextIn d → row_of d.command.opcode ≡ text_row
unfolding row_of rows
text_row_lem d e = rw (eqb-true d.command.opcode _ e)

-- A pattern with no operand of TEXT, and a role that changes neither settings nor field
abbrev apart : Pattern → Bool
apart A = true
apart D = true
apart AA = true
apart AD = true
apart ArcDD = true
apart ArcADD = true
apart PolygonD = true
apart PolygonAD = true
apart IncrementalLine = true
apart IncrementalPolygon = true
apart Domain·pattern = true
apart Text·pattern = false
apart SelectColour = true
apart SetColour = true
apart Skipped = true

abbrev role_apart : Role → Bool
role_apart MoveTo = true
role_apart DrawTo = true
role_apart DrawBy = true
role_apart Middle = true
role_apart ArcEnd = true
role_apart Start = true
role_apart Edge = true
role_apart StepSize = true
role_apart LineCodes = true
role_apart PolygonCodes = true
role_apart Lengths = true
role_apart Pel = true
role_apart TextFirst = false
role_apart TextSecond = false
role_apart TextField = false
role_apart TextMore = true
role_apart Foreground = true
role_apart Background = true
role_apart Shade = true
role_apart Dropped = true

abbrev Apart : Role → Type 0
Apart x = role_apart x ≡ true

apart_role : (p : Pattern) (n : Due) → apart p ≡ true → Apart (role_of p n)
unfolding role_of
apart_role A n e = refl
apart_role D n e = refl
apart_role AA n e = nth_all Apart n refl refl refl refl
apart_role AD n e = nth_all Apart n refl refl refl refl
apart_role ArcDD n e = nth_all Apart n refl refl refl refl
apart_role ArcADD n e = nth_all Apart n refl refl refl refl
apart_role PolygonD n e = refl
apart_role PolygonAD n e = nth_all Apart n refl refl refl refl
apart_role IncrementalLine n e = nth_all Apart n refl refl refl refl
apart_role IncrementalPolygon n e = nth_all Apart n refl refl refl refl
apart_role Domain·pattern n e = nth_all Apart n refl refl refl refl
apart_role Text·pattern n e = true_false (sym e)
apart_role SelectColour n e = nth_all Apart n refl refl refl refl
apart_role SetColour n e = nth_all Apart n refl refl refl refl
apart_role Skipped n e = refl

-- 34 is TEXT's opcode alone
apart_row : (o : ℕ) → eqb o 34 ≡ false → apart (row_of o).pattern ≡ true
unfolding row_of rows
apart_row o e = pick_by (λ (r : Row). apart r.pattern ≡ true) (ltb o 32) (λ h. refl) (λ h. by (o - 32) refl (ltb-false o 32 h))
  where
    text : o - 32 ≡ 2 → 32 ≤ o → o ≡ 34
    text p q = omega arith

    by : (i : ℕ) → o - 32 ≡ i → 32 ≤ o → unfold rows in (apart (get_or rows i other).pattern ≡ true)
    by zero s h = refl
    by (suc zero) s h = refl
    by (suc (suc zero)) s h = true_false (sym (ap (λ (n : ℕ). eqb n 34) (text s h)) ∙ e)
    by (suc (suc (suc i))) s h = entry_passes (λ (r : Row). apart r.pattern) (drop 3 rows) other refl refl i

-- Operands of other commands: the cursor follows the point, or stays

figure_stays : (kind : ℕ) (filled w : Bool) (q : Point) (d : Drawing) → StaysIn d → Drawn StaysIn (draw_figure kind filled w q d)
unfolding draw_figure
figure_stays kind filled w q d k =
    let moved = follow_stays q d.pen k in
    pick_all (Drawn StaysIn) (eqb kind 1) moved
    (pick_all (Drawn StaysIn) (eqb kind 2) moved
    (pick_all (Drawn StaysIn) (eqb kind 4) (follow_stays (record { x = q.x; y = d.pen.point.y }) d.pen k) moved))

edge_stays : (filled : Bool) (v : Point) (d : Drawing) → StaysIn d → Drawn StaysIn (edge_by filled v d)
unfolding edge_by
edge_stays filled v d k = pick_all (Drawn StaysIn) (ltb d.command.vertices most_vertices) (follow_stays _ d.pen k) tt

shade_stays : (m : Mode) (x y z : ℕ) (d : Drawing) → StaysIn d → Drawn StaysIn (shade_to m x y z d)
unfolding shade_to shade_map
shade_stays Direct x y z d k = k
shade_stays Mapped x y z d k = k
shade_stays TwoColour x y z d k = k

apply_stays : (x : Role) (r : Row) (bs : List ℕ) (d : Drawing) → Apart x → StaysIn d → Drawn StaysIn (apply x r bs d)
unfolding apply arc_middle arc_to
apply_stays MoveTo r bs d e k = follow_stays _ d.pen k
apply_stays DrawTo r bs d e k = figure_stays r.kind r.filled _ _ d k
apply_stays DrawBy r bs d e k = figure_stays r.kind r.filled _ _ d k
apply_stays Middle r bs d e k = follow_stays _ d.pen k
apply_stays ArcEnd r bs d e k = follow_stays _ d.pen k
apply_stays Start r bs d e k = follow_stays _ d.pen k
apply_stays Edge r bs d e k = edge_stays r.filled _ d k
apply_stays StepSize r bs d e k = k
apply_stays LineCodes r bs d e k = k
apply_stays PolygonCodes r bs d e k = k
apply_stays Lengths r bs d e k = k
apply_stays Pel r bs d e k = k
apply_stays TextFirst r bs d e k = true_false (sym e)
apply_stays TextSecond r bs d e k = true_false (sym e)
apply_stays TextField r bs d e k = true_false (sym e)
apply_stays TextMore r bs d e k = k
apply_stays Foreground r bs d e k = k
apply_stays Background r bs d e k = k
apply_stays Shade r bs d e k = shade_stays d.look.colour.mode _ _ _ d k
apply_stays Dropped r bs d e k = k

begun_stays : (r : Row) (d : Drawing) → apart r.pattern ≡ true → StaysIn d → Drawn StaysIn (apply_begun r d)
unfolding apply_begun
begun_stays r d e k =
    let x = role_due r d in
    then_drawn StaysIn StaysIn (apply x r (begun d.pen.operand) d) _ (apply_stays x r (begun d.pen.operand) d (apart_role r.pattern d.command.due e) k) (λ f h. h)

-- Operands of TEXT leave it open
begun_text : (d : Drawing) → TextIn d → Drawn TextIn (apply_begun text_row d)
unfolding apply_begun role_of apply
begun_text d e =
    let bs = begun d.pen.operand in
    then_drawn TextIn TextIn (apply (role_due text_row d) text_row bs d) _
    (nth_all (λ (x : Role). Drawn TextIn (apply x text_row bs d)) d.command.due e e e e)
    (λ f h. h)

-- Codes of an incremental command: the cursor follows each move
code_stays : (o : Outline) (filled : Bool) (c : ℕ) (d : Drawing) → StaysIn d → Drawn StaysIn (apply_code o filled c d)
code_stays o filled c d k =
    code_all (Drawn StaysIn) o filled c d k (λ kind. figure_stays kind filled _ _ d k, edge_stays filled _ d k)

-- A data byte, for an operand of n bytes
take_all : (P : Drawing → Type 0) (n : ℕ) (r : Row) (b : ℕ) (d : Drawing) → Drawn P (loose_byte (role_due r d) r.filled b d)
    → P (with_byte b d) → Drawn P (apply_begun r (with_byte b d)) → Drawn P (take_byte n r b d)
unfolding take_byte
take_all P n r b d p q o =
    pick_all (Drawn P) (eqb n 0) p (pick_all (Drawn P) (ltb (suc d.pen.operand.count) n) q o)

data_text : (b : ℕ) (d : Drawing) → TextIn d → Drawn TextIn (data_byte text_row b d)
unfolding data_byte role_of loose_byte
data_text b d e =
    take_all TextIn _ text_row b d (nth_all (λ (x : Role). Drawn TextIn (loose_byte x false b d)) d.command.due e e e e) e
    (begun_text (with_byte b d) e)

data_stays : (r : Row) (b : ℕ) (d : Drawing) → apart r.pattern ≡ true → StaysIn d → Drawn StaysIn (data_byte r b d)
unfolding data_byte
data_stays r b d e k =
    let f = r.filled in
    take_all StaysIn _ r b d
    (loose_all (Drawn StaysIn) (role_due r d) f b d k (λ o. codes_drawn StaysIn o f (code_stays o f) (codes b) d k)) k
    (begun_stays r (with_byte b d) e k)

data_settled : (b : ℕ) (d : Drawing) → Settled d → Drawn Settled (data_byte (row_of d.command.opcode) b d)
data_settled b d h =
    by_test (text_open d)
    (λ e.
    drawn_map text_settled (data_byte (row_of d.command.opcode) b d)
    (subst (λ (r : Row). Drawn TextIn (data_byte r b d)) (sym (text_row_lem d e)) (data_text b d e)))
    (λ e.
    drawn_map stays_settled (data_byte (row_of d.command.opcode) b d)
    (data_stays (row_of d.command.opcode) b d (apart_row d.command.opcode e) (settled_stays d e h)))

-- Closing

abbrev closing : Drawing → Row → Outcome
closing d r = and_then (complete r d) (λ e. and_then (finish (role_due r e) r.filled e) (λ f. Draw (closed f) []))

-- TEXT's closing holds the cursor, whatever its bytes have set
text_closing : (d : Drawing) → Drawn StaysIn (closing d text_row)
unfolding role_of finish
text_closing d =
    then_drawn (λ e. Unit {0}) StaysIn (complete text_row d) _ (drawn_all (λ e. tt) (complete text_row d))
    (λ e h.
    then_drawn StaysIn StaysIn (finish (role_due text_row e) false e) _
    (nth_all (λ (x : Role). Drawn StaysIn (finish x false e)) e.command.due (close_stays First e.pen) (close_stays Second e.pen) (close_stays Third e.pen) (close_stays Past e.pen))
    (λ f k. k))

finish_stays : (x : Role) (filled : Bool) (d : Drawing) → StaysIn d → Drawn StaysIn (finish x filled d)
unfolding arc_to closing_edge
finish_stays x filled d k =
    let moved = follow_stays d.command.start d.pen k in
    finish_all (Drawn StaysIn) x filled d k moved (pick_all (Drawn StaysIn) (has_edge d.command) moved k) k
    (λ n. close_stays n d.pen)

other_closing : (r : Row) (d : Drawing) → apart r.pattern ≡ true → StaysIn d → Drawn StaysIn (closing d r)
unfolding complete
other_closing r d e k =
    then_drawn StaysIn StaysIn (complete r d) _ (pick_all (Drawn StaysIn) (eqb d.pen.operand.count 0) k (begun_stays r d e k))
    (λ f h. then_drawn StaysIn StaysIn (finish (role_due r f) r.filled f) _ (finish_stays (role_due r f) r.filled f h) (λ g i. i))

close_held : (d : Drawing) → Settled d → Drawn StaysIn (close d)
unfolding close
close_held d h =
    let o = d.command.opcode in
    by_test (text_open d)
    (λ e. subst (λ (r : Row). Drawn StaysIn (closing d r)) (sym (text_row_lem d e)) (text_closing d))
    (λ e. other_closing (row_of o) d (apart_row o e) (settled_stays d e h))

-- No command is open then
pub close_closes : (d : Drawing) → Drawn (λ e. text_open e ≡ false) (close d)
unfolding close
close_closes d =
    let r = row_of d.command.opcode in
    then_drawn (λ e. Unit {0}) (λ e. text_open e ≡ false) (complete r d) _ (drawn_all (λ e. tt) (complete r d))
    (λ e h.
    then_drawn (λ f. Unit {0}) (λ f. text_open f ≡ false) (finish (role_due r e) r.filled e) _ (drawn_all (λ f. tt) (finish (role_due r e) r.filled e))
    (λ f k. refl))

-- Actions

format_stays : (f : Effector) (s : Pen) → Stays s.text → Stays (formatted f s).text
unfolding row_up
format_stays Apb s k = apb_stays s
format_stays Apf s k = advance_stays s
format_stays Apd s k = apd_stays s.text.pair s k
format_stays Apu s k = row_stays _ s
format_stays Cs s k = home_stays s
format_stays Apr s k = apr_stays s.text.pair s k
format_stays Aph s k = home_stays s

typed_stays : (x : Repertoire) (b : ℕ) (s : Pen) → Stays s.text → Stays (typed x b s).text
unfolding typed
typed_stays x b s k = pick_all (λ (z : Pen). Stays z.text) (spaces x b) (advance_stays s) k

place_stays : (x : Positioning) (r c : ℕ) (s : Pen) → Stays (placed_by x r c s).text
place_stays Aps r c s = addressed_stays r c s
place_stays Nsr r c s = positioned_stays r c s

-- NSR's 1/15 puts settings and field to fresh under the cursor; a column byte sets the cursor whatever it was
abbrev pub resets : Action → Bool
resets Idle = false
resets Close = false
resets (Control b) = false
resets (Cancel b) = false
resets (Format f b) = false
resets (Reset b) = true
resets (Position x r c) = false
resets (Character x b) = false
resets (Opcode o) = false
resets (Data b) = false

abbrev pub places : Action → Bool
places Idle = false
places Close = false
places (Control b) = false
places (Cancel b) = false
places (Format f b) = false
places (Reset b) = false
places (Position x r c) = true
places (Character x b) = false
places (Opcode o) = false
places (Data b) = false

marked_settled : (r : Drawing → Record) (f : Drawing → Drawing) (d : Drawing) → Settled d → ((e : Drawing) → StaysIn e → StaysIn (f e)) → Drawn Settled (marked r f d)
marked_settled r f d h k =
    then_drawn StaysIn Settled (close d) _ (close_held d h) (λ e i. stays_settled (f e) (k e i))

-- After every act but NSR's 1/15, TEXT is open or the cursor is held where it stands
pub act_settled : (a : Action) (d : Drawing) → resets a ≡ false → Settled d → Drawn Settled (act a d)
unfolding act open_command
act_settled Idle d n h = h
act_settled Close d n h = drawn_map stays_settled (close d) (close_held d h)
act_settled (Control b) d n h = marked_settled _ _ d h (λ e k. k)
act_settled (Cancel b) d n h = marked_settled _ _ d h (λ e k. k)
act_settled (Format f b) d n h = marked_settled _ _ d h (λ e k. format_stays f e.pen k)
act_settled (Reset b) d n h = true_false n
act_settled (Position x r c) d n h = stays_settled (with_pen (placed_by x r c d.pen) d) (place_stays x r c d.pen)
act_settled (Character x b) d n h = marked_settled _ _ d h (λ e k. typed_stays x b e.pen k)
act_settled (Opcode o) d n h =
    then_drawn StaysIn Settled (close d) _ (close_held d h) (λ e k. held_unless (eqb o 34) e.pen.text k)
act_settled (Data b) d n h = data_settled b d h

-- and after a column byte, whatever was before
pub placed_settled : (a : Action) (d : Drawing) → places a ≡ true → Drawn Settled (act a d)
unfolding act
placed_settled Idle d n = true_false (sym n)
placed_settled Close d n = true_false (sym n)
placed_settled (Control b) d n = true_false (sym n)
placed_settled (Cancel b) d n = true_false (sym n)
placed_settled (Format f b) d n = true_false (sym n)
placed_settled (Reset b) d n = true_false (sym n)
placed_settled (Position x r c) d n = stays_settled (with_pen (placed_by x r c d.pen) d) (place_stays x r c d.pen)
placed_settled (Character x b) d n = true_false (sym n)
placed_settled (Opcode o) d n = true_false (sym n)
placed_settled (Data b) d n = true_false (sym n)

-- With NSR waiting before and after, or not: it waits after, or the action is a column byte's, or nothing waits and none resets
abbrev pub settles : Bool → Action → Bool → Bool
settles false a after = not (resets a) || after
settles true a after = places a || after

abbrev pub SettledAs : Bool → Drawing → Type 0
SettledAs due d = HeldUnless (due || text_open d) d.pen.text

or_none : (t : Bool) → t || false ≡ true → t ≡ true
or_none true e = refl
or_none false e = e

not_true : (t : Bool) → not t ≡ true → t ≡ false
not_true true e = sym e
not_true false e = refl

-- After every such act NSR waits, TEXT is open, or the cursor is held where it stands
pub act_settles : (before after : Bool) (a : Action) (d : Drawing) → settles before a after ≡ true → SettledAs before d → Drawn (SettledAs after) (act a d)
act_settles before true a d s h = drawn_all (λ e. tt) (act a d)
act_settles true false a d s h = placed_settled a d (or_none (places a) s)
act_settles false false a d s h = act_settled a d (not_true (resets a) (or_none (not (resets a)) s)) h

pub fresh_settled : Settled fresh_drawing
unfolding held trunc256 min max coordinate_of box_of turned_box magnitude
fresh_settled = (refl, refl)

-- From a fresh session every place that drawing keeps is a multiple of 256, and so is every coordinate of a record but of kind 8
use Rattle.std.specs.Prelude.{◌+◌, ◌*◌, ◌-◌, ◌%◌, ◌^◌, ◌<◌, ◌≤◌, ◌≡◌, ◌∷◌, ◌++◌}
use Rattle.rules.specs.Prelude.{ℕ, zero, suc, arith, mul_assoc, pow-add, pow-suc, refl, sym, ap, ◌∙◌, Bool, true, false, List, [], length, length-append, length-take, length-set, ltb, eqb}
use Rattle.rules.specs.Types.{Action, Idle, Close, Control·action as Control, Cancel, Format, Reset, Position, Character, Opcode, Data, Point, Operand, Pen, Text, Look, Record}
use Rattle.rules.specs.Types.{Due, Outline, Line, Polygon, Command, Drawing, Row, Mode, Direct, Mapped, TwoColour, Reach, Coordinate}
use Rattle.rules.specs.Types.{Moving, Together, CursorLeads, PointLeads, Independent, Style, Effector, Apb, Apf, Apd, Apu, Cs, Apr, Aph}
use Rattle.rules.specs.Types.{Pair, NoPair, Automatic, ReturnSeen, FeedSeen, Positioning, Aps, Nsr, Repertoire}
use Rattle.rules.specs.Types.{Role, MoveTo, DrawTo, DrawBy, Middle, ArcEnd, Start, Edge, StepSize, LineCodes, PolygonCodes, Lengths, Pel, TextFirst, TextSecond, TextField, TextMore, Foreground}
use Rattle.rules.specs.Types.{Background, Shade·role as Shade, Dropped}
use Rattle.rules.specs.Numbers.{most_vertices, screen_side, origin}
use Rattle.rules.specs.Operands.{bit, x_bits, y_bits, bits_of, from_top, point, begun, wrapped_sum, displaced, displaced_out}
use Rattle.rules.specs.Record.{flags, set_number, record_of, mark, character_record, figure}
use Rattle.rules.specs.Text.{field_box, offset, point_on, point_at, cursor_on, cursor_at, led, following, follow, set_cursor, set_along, fits_next}
use Rattle.rules.specs.Text.{enter, row_in, row_down, row_up, first_position, automatic_pair, advance, apb, home, return_in, feed_in, formatted, spaces, typed, close_text, addressed, positioned, placed_by, reset_text, opposite, with_text, with_settings, with_missing, with_field, fresh_field}
use Rattle.rules.specs.Increments.{names_x, names_y, codes, displacement, negated, sign_changed, change_due}
use Rattle.rules.specs.Drawing.{row_of, length_of, with_command, reset, marked, with_point, with_start, with_vertices, on_text}
use Rattle.rules.specs.Drawing.{Outcome, NotDrawn, Draw, prepend, and_then}
use Rattle.rules.specs.Drawing.{draw_figure, arc_middle, arc_to, edge_by, flag_changed, changed, altered, apply_code, apply_codes, domain_of, shade_map, shade_to, apply, role_due, apply_begun}
use Rattle.rules.specs.Drawing.{with_byte, take_byte, data_byte, complete, has_edge, closing_edge, finish, close, open_command, control_record, act, fresh_drawing}
use Rattle.rules.specs.Statements.{OnGrid, RecordOnGrid, AllOnGrid}
use Rattle.rules.proofs.Bools.{pick_all}
use Rattle.rules.proofs.TextLaws.{held_truncated, held_below, offset_before, offset_after}
use Rattle.rules.proofs.DrawingRanges.{finish_all, code_all, loose_all}

-- Numbers

sum_multiple : (a b : ℕ) → a % 256 ≡ 0 → b % 256 ≡ 0 → (a + b) % 256 ≡ 0
sum_multiple a b p q = omega arith

-- A bit at place 8 or higher
high_bit : (b n : ℕ) → 8 ≤ n → (b * 2 ^ n) % 256 ≡ 0
high_bit b n h =
    let s : n ≡ (n - 8) + 8 = omega arith in
    ap (λ (k : ℕ). (b * k) % 256) (ap (λ (k : ℕ). 2 ^ k) s ∙ pow-add 2 (n - 8) 8)
    ∙ ap (λ (k : ℕ). k % 256) (sym (mul_assoc b (2 ^ (n - 8)) 256))
    ∙ whole (b * 2 ^ (n - 8))
  where
    whole : (k : ℕ) → (k * 256) % 256 ≡ 0
    whole k = omega arith

-- Bits that end 8 places above the lowest
top_multiple : (n : ℕ) (bs : List ℕ) → length bs + 8 ≤ n → from_top n bs % 256 ≡ 0
unfolding from_top
top_multiple zero bs h = refl
top_multiple (suc n) [] h = refl
top_multiple (suc n) (b ∷ bs) h =
    sum_multiple (b * 2 ^ n) (from_top n bs) (high_bit b n (omega arith)) (top_multiple n bs (omega arith))

bits_most : (f : ℕ → List ℕ) → ((b : ℕ) → length (f b) ≤ 3) → (bs : List ℕ) → length (bits_of f bs) ≤ 3 * length bs
unfolding bits_of
bits_most f h [] = omega arith
bits_most f h (b ∷ bs) = rw (length-append (f b) (bits_of f bs)) (omega (arith, h b, bits_most f h bs))

x_bits_lem : (three : Bool) (b : ℕ) → length (x_bits three b) ≤ 3
unfolding x_bits
x_bits_lem true b = omega arith
x_bits_lem false b = omega arith

y_bits_lem : (three : Bool) (b : ℕ) → length (y_bits three b) ≤ 3
unfolding y_bits
y_bits_lem true b = omega arith
y_bits_lem false b = omega arith

-- An operand of 8 bytes at most has at most 24 bits a coordinate
pub point_grid : (three : Bool) (bs : List ℕ) → length bs ≤ 8 → OnGrid (point three bs)
unfolding point
point_grid three bs h =
    (top_multiple _ (bits_of (x_bits three) bs) (omega (arith, bits_most (x_bits three) (x_bits_lem three) bs)), top_multiple _ (bits_of (y_bits three) bs) (omega (arith, bits_most (y_bits three) (y_bits_lem three) bs)))

-- Its coordinates are 32-bit patterns

abbrev Bits : List ℕ → Type 0
Bits [] = Unit {0}
Bits (b ∷ bs) = (b < 2) × Bits bs

bits_append : (bs cs : List ℕ) → Bits bs → Bits cs → Bits (bs ++ cs)
bits_append [] cs h k = k
bits_append (b ∷ bs) cs h k = (h.0, bits_append bs cs h.1 k)

bits_of_lem : (f : ℕ → List ℕ) → ((b : ℕ) → Bits (f b)) → (bs : List ℕ) → Bits (bits_of f bs)
unfolding bits_of
bits_of_lem f h [] = tt
bits_of_lem f h (b ∷ bs) = bits_append (f b) (bits_of f bs) (h b) (bits_of_lem f h bs)

bit_below : (k b : ℕ) → bit k b < 2
unfolding bit
bit_below k b = omega arith

x_are_bits : (three : Bool) (b : ℕ) → Bits (x_bits three b)
unfolding x_bits
x_are_bits true b = (bit_below 6 b, (bit_below 5 b, tt))
x_are_bits false b = (bit_below 6 b, (bit_below 5 b, (bit_below 4 b, tt)))

y_are_bits : (three : Bool) (b : ℕ) → Bits (y_bits three b)
unfolding y_bits
y_are_bits true b = (bit_below 4 b, (bit_below 3 b, tt))
y_are_bits false b = (bit_below 3 b, (bit_below 2 b, (bit_below 1 b, tt)))

one_bit : (b m k : ℕ) → b < 2 → k < m → b * m + k < m * 2
one_bit zero m k h e = omega arith
one_bit (suc zero) m k h e = omega arith
one_bit (suc (suc b)) m k h e = absurd (omega arith)

top_below : (n : ℕ) (bs : List ℕ) → Bits bs → from_top n bs < 2 ^ n
unfolding from_top
top_below zero bs h = omega arith
top_below (suc n) [] h = rw (pow-suc 2 n) (omega (arith, top_below n [] tt))
top_below (suc n) (b ∷ bs) h = rw (pow-suc 2 n) (one_bit b (2 ^ n) (from_top n bs) h.0 (top_below n bs h.1))

point_below : (three : Bool) (bs : List ℕ) → ((point three bs).x < 2 ^ 32) × ((point three bs).y < 2 ^ 32)
unfolding point
point_below three bs =
    (top_below 32 (bits_of (x_bits three) bs) (bits_of_lem (x_bits three) (x_are_bits three) bs), top_below 32 (bits_of (y_bits three) bs) (bits_of_lem (y_bits three) (y_are_bits three) bs))

-- Text

-- Multiples of 256 below a number
pub record Below (n : ℕ) (p : Point) : Type 0 where
  pub grid : OnGrid p
  pub below : (p.x < n) × (p.y < n)

-- What a pen keeps: a drawing point, a cursor on the screen, a field of 32-bit patterns, and at most 8 bytes of an operand. Over the
-- values, which compute alike where other fields differ
pub record PlacesAt (point cursor field : Point) (bytes : ℕ) : Type 0 where
  pub at_point : OnGrid point
  pub at_cursor : Below screen_side cursor
  pub at_field : Below (2 ^ 32) field
  pub at_bytes : bytes ≤ 8

abbrev pub PenOnGrid : Pen → Type 0
PenOnGrid s = PlacesAt s.point s.text.cursor s.text.field (length s.operand.bytes)

point_multiple : (r : Reach) (c : ℕ) → c % 256 ≡ 0 → r.before % 256 ≡ 0 → r.after % 256 ≡ 0 → point_on r c % 256 ≡ 0
unfolding point_on
point_multiple r c p q o = omega arith

point_on_lem : (o : Style) (r : Reach) (c : ℕ) → c % 256 ≡ 0 → point_on (offset o r) c % 256 ≡ 0
point_on_lem o r c h = point_multiple (offset o r) c h (offset_before o r) (offset_after o r)

point_at_lem : (t : Text) → OnGrid t.cursor → OnGrid (point_at t)
unfolding point_at
point_at_lem t h =
    let o = t.settings.style in
    (point_on_lem o (field_box t).x t.cursor.x h.0, point_on_lem o (field_box t).y t.cursor.y h.1)

-- The point that the cursor leads
led_grid : (m : Moving) (t : Text) (p : Point) → OnGrid t.cursor → OnGrid p → OnGrid (led m t p)
unfolding led
led_grid Together t p h k = point_at_lem t h
led_grid CursorLeads t p h k = point_at_lem t h
led_grid PointLeads t p h k = k
led_grid Independent t p h k = k

set_grid : (x y : Coordinate) (s : Pen) → PenOnGrid s → PenOnGrid (set_cursor x y s)
unfolding set_cursor
set_grid x y s g =
    let t = (set_cursor x y s).text in
    let u = (field_box s.text).x in
    let v = (field_box s.text).y in
    record {
      at_point = led_grid t.settings.moving t s.point (held_truncated u x, held_truncated v y) g.at_point;
      at_cursor = record { grid = (held_truncated u x, held_truncated v y); below = (held_below u x, held_below v y) };
      at_field = g.at_field;
      at_bytes = g.at_bytes;
    }

-- The cursor that the point leads
follow_grid : (q : Point) (s : Pen) → OnGrid q → PenOnGrid s → PenOnGrid (follow q s)
unfolding following cursor_at cursor_on
follow_grid q s h g = by s.text.settings.moving
  where
    led : PlacesAt q (cursor_at s.text q) s.text.field (length s.operand.bytes)
    led =
        record {
          at_point = h;
          at_cursor = record { grid = (held_truncated _ _, held_truncated _ _); below = (held_below _ _, held_below _ _) };
          at_field = g.at_field;
          at_bytes = g.at_bytes;
        }

    left : PlacesAt q s.text.cursor s.text.field (length s.operand.bytes)
    left =
        record {
          at_point = h;
          at_cursor = g.at_cursor;
          at_field = g.at_field;
          at_bytes = g.at_bytes;
        }

    by : (m : Moving) → PlacesAt q (following m q s.text).cursor (following m q s.text).field (length s.operand.bytes)
    by Together = led
    by CursorLeads = left
    by PointLeads = led
    by Independent = left

-- The format effectors, characters, APS and NSR set the cursor, or leave it

advance_grid : (s : Pen) → PenOnGrid s → PenOnGrid (advance s)
unfolding advance automatic_pair row_down row_in first_position enter set_along
advance_grid s g =
    pick_all PenOnGrid (fits_next s.text.settings.path s.text) (set_grid _ _ s g)
    (set_grid _ _ (first_position s) (set_grid _ _ s g))

apb_grid : (s : Pen) → PenOnGrid s → PenOnGrid (apb s)
unfolding apb row_up row_in enter set_along
apb_grid s g =
    let d = opposite s.text.settings.path in
    pick_all PenOnGrid (fits_next d s.text) (set_grid _ _ s g) (set_grid _ _ (enter d s) (set_grid _ _ s g))

return_grid : (w : Pair) (s : Pen) → PenOnGrid s → PenOnGrid (return_in w s)
unfolding return_in first_position enter set_along
return_grid NoPair s g = set_grid _ _ s g
return_grid Automatic s g = g
return_grid ReturnSeen s g = g
return_grid (FeedSeen p) s g = set_grid _ _ s g

feed_grid : (w : Pair) (s : Pen) → PenOnGrid s → PenOnGrid (feed_in w s)
unfolding feed_in row_down row_in set_along
feed_grid NoPair s g = set_grid _ _ s g
feed_grid Automatic s g = set_grid _ _ s g
feed_grid ReturnSeen s g = g
feed_grid (FeedSeen p) s g = set_grid _ _ s g

format_grid : (f : Effector) (s : Pen) → PenOnGrid s → PenOnGrid (formatted f s)
unfolding row_up row_in set_along home
format_grid Apb s g = apb_grid s g
format_grid Apf s g = advance_grid s g
format_grid Apd s g = feed_grid s.text.pair s g
format_grid Apu s g = set_grid _ _ s g
format_grid Cs s g = set_grid _ _ s g
format_grid Apr s g = return_grid s.text.pair s g
format_grid Aph s g = set_grid _ _ s g

typed_grid : (x : Repertoire) (b : ℕ) (s : Pen) → PenOnGrid s → PenOnGrid (typed x b s)
unfolding typed
typed_grid x b s g = pick_all PenOnGrid (spaces x b) (advance_grid s g) g

place_grid : (x : Positioning) (r c : ℕ) (s : Pen) → PenOnGrid s → PenOnGrid (placed_by x r c s)
unfolding addressed positioned
place_grid Aps r c s g = set_grid _ _ s g
place_grid Nsr r c s g = set_grid _ _ s g

-- TEXT's closing changes settings, and sets the cursor
close_text_grid : (n : Due) (s : Pen) → PenOnGrid s → PenOnGrid (close_text n s)
unfolding close_text
close_text_grid n s g = set_grid _ _ (with_text (with_settings (with_missing n s.text.settings) s.text) s) g

-- Drawing

-- The start and the kept point of the open command, and the pel
pub record FigureAt (start kept pel : Point) : Type 0 where
  pub at_start : OnGrid start
  pub at_kept : OnGrid kept
  pub at_pel : OnGrid pel

abbrev pub DrawingOnGrid : Drawing → Type 0
DrawingOnGrid d = PenOnGrid d.pen × FigureAt d.command.start d.command.kept d.look.domain.pel

-- An action leaves such a state and writes such records
abbrev pub OutcomeOnGrid : Outcome → Type 0
OutcomeOnGrid (NotDrawn r) = Unit {0}
OutcomeOnGrid (Draw d rs) = DrawingOnGrid d × AllOnGrid rs

pub all_append : (rs qs : List Record) → AllOnGrid rs → AllOnGrid qs → AllOnGrid (rs ++ qs)
all_append [] qs h k = k
all_append (r ∷ rs) qs h k = (h.0, all_append rs qs h.1 k)

then_grid : (o : Outcome) (k : Drawing → Outcome) → OutcomeOnGrid o → ((e : Drawing) → DrawingOnGrid e → OutcomeOnGrid (k e)) → OutcomeOnGrid (and_then o k)
unfolding and_then
then_grid (NotDrawn r) k p f = tt
then_grid (Draw d rs) k p f = by (k d) (f d p.0)
  where
    by : (o : Outcome) → OutcomeOnGrid o → OutcomeOnGrid (prepend rs o)
    by (NotDrawn r) q = tt
    by (Draw e qs) q = (q.0, all_append rs qs p.1 q.1)

origin_grid : OnGrid origin
origin_grid = (refl, refl)

record_grid : (l : Look) (kind marks repertoire code : ℕ) (p q r : Point) → OnGrid l.domain.pel → OnGrid p → OnGrid q → OnGrid r → RecordOnGrid (record_of l kind marks repertoire code p q r)
unfolding record_of
record_grid l kind marks repertoire code p q r h i j k = record { pel = h; points = λ n. (i, j, k) }

figure_grid : (l : Look) (kind marks : ℕ) (p q r : Point) → OnGrid l.domain.pel → OnGrid p → OnGrid q → OnGrid r → RecordOnGrid (figure l kind marks p q r)
unfolding figure
figure_grid l kind marks p q r h i j k = record_grid l kind marks 0 0 p q r h i j k

mark_grid : (l : Look) (kind code : ℕ) (p : Point) → OnGrid l.domain.pel → OnGrid p → RecordOnGrid (mark l kind 0 code p)
unfolding mark
mark_grid l kind code p h i = record_grid l kind 0 0 code p origin origin h i origin_grid origin_grid

-- "8 G, R, B in x0 y0 x1"
shade_grid : (l : Look) (p q : Point) → OnGrid l.domain.pel → RecordOnGrid (figure l 8 0 p q origin)
unfolding figure record_of
shade_grid l p q h = record { pel = h; points = λ n. absurd (n refl) }

move_grid : (q : Point) (d : Drawing) → OnGrid q → DrawingOnGrid d → DrawingOnGrid (with_point q d)
move_grid q d h g = (follow_grid q d.pen h g.0, g.1)

sum_wraps : (a b : ℕ) → a % 256 ≡ 0 → b % 256 ≡ 0 → wrapped_sum a b % 256 ≡ 0
unfolding wrapped_sum
sum_wraps a b e f = omega arith

displaced_grid : (p v : Point) → OnGrid p → OnGrid v → OnGrid (displaced p v)
unfolding displaced
displaced_grid p v h k = (sum_wraps p.x v.x h.0 k.0, sum_wraps p.y v.y h.1 k.1)

draw_grid : (kind : ℕ) (filled w : Bool) (q : Point) (d : Drawing) → OnGrid q → DrawingOnGrid d → OutcomeOnGrid (draw_figure kind filled w q d)
unfolding draw_figure
draw_grid kind filled w q d h g =
    let p = d.pen.point in
    let i = g.0.at_point in
    let n = g.1.at_pel in
    let m = flags filled w false in
    pick_all OutcomeOnGrid (eqb kind 1) (move_grid q d h g, (figure_grid d.look kind m q origin origin n h origin_grid origin_grid, tt))
    (pick_all OutcomeOnGrid (eqb kind 2) (move_grid q d h g, (figure_grid d.look kind m p q origin n i h origin_grid, tt))
    (pick_all OutcomeOnGrid (eqb kind 4) (move_grid (record { x = q.x; y = p.y }) d (h.0, i.1) g, (figure_grid d.look kind m p q origin n i h origin_grid, tt))
    (move_grid q d h g, tt)))

arc_grid : (filled w : Bool) (q : Point) (d : Drawing) → OnGrid q → DrawingOnGrid d → OutcomeOnGrid (arc_to filled w q d)
unfolding arc_to
arc_grid filled w q d h g =
    let c = d.command in
    (move_grid q d h g, (figure_grid d.look 3 _ c.start c.kept q g.1.at_pel g.1.at_start g.1.at_kept h, tt))

-- A command with another start and kept point
start_grid : (p m : Point) (d : Drawing) → OnGrid p → OnGrid m → DrawingOnGrid d → FigureAt p m d.look.domain.pel
start_grid p m d h k g = record { at_start = h; at_kept = k; at_pel = g.1.at_pel }

edge_grid : (filled : Bool) (v : Point) (d : Drawing) → OnGrid v → DrawingOnGrid d → OutcomeOnGrid (edge_by filled v d)
unfolding edge_by
edge_grid filled v d h g =
    let p = d.pen.point in
    let k = displaced_grid p v g.0.at_point h in
    pick_all OutcomeOnGrid (ltb d.command.vertices most_vertices)
    (move_grid (displaced p v) (with_command (with_vertices (suc d.command.vertices) d.command) d) k g, (figure_grid d.look 5 _ p (displaced p v) origin g.1.at_pel g.0.at_point k origin_grid, tt))
    tt

colour_grid : (m : Mode) (x y z : ℕ) (d : Drawing) → DrawingOnGrid d → OutcomeOnGrid (shade_to m x y z d)
unfolding shade_to shade_map
colour_grid Direct x y z d g = (g, tt)
colour_grid Mapped x y z d g = (g, (shade_grid d.look _ _ g.1.at_pel, tt))
colour_grid TwoColour x y z d g = (g, (shade_grid d.look _ _ g.1.at_pel, tt))

pel_grid : (p : Point) (d : Drawing) → OnGrid p → DrawingOnGrid d → FigureAt d.command.start d.command.kept p
pel_grid p d h g = record { at_start = g.1.at_start; at_kept = g.1.at_kept; at_pel = h }

field_grid : (f : Point) (d : Drawing) → Below (2 ^ 32) f → DrawingOnGrid d → DrawingOnGrid (on_text (with_field f) d)
field_grid f d h g =
    let p = g.0 in (
      record {
        at_point = p.at_point;
        at_cursor = p.at_cursor;
        at_field = h;
        at_bytes = p.at_bytes;
      },
      g.1,
    )

-- An operand of at most 8 bytes, for its role
apply_grid : (x : Role) (r : Row) (bs : List ℕ) (d : Drawing) → length bs ≤ 8 → DrawingOnGrid d → OutcomeOnGrid (apply x r bs d)
unfolding apply arc_middle domain_of
apply_grid MoveTo r bs d h g = (move_grid _ d (point_grid _ bs h) g, tt)
apply_grid DrawTo r bs d h g = draw_grid r.kind r.filled false _ d (point_grid _ bs h) g
apply_grid DrawBy r bs d h g = draw_grid r.kind r.filled _ _ d (displaced_grid _ _ g.0.at_point (point_grid _ bs h)) g
apply_grid Middle r bs d h g =
    let p = d.pen.point in
    let v = point d.look.domain.three bs in
    let k = displaced_grid p v g.0.at_point (point_grid _ bs h) in
    (move_grid (displaced p v) (with_command (with_start p (displaced p v) (displaced_out p v) d.command) d) k (g.0, start_grid p (displaced p v) d g.0.at_point k g), tt)
apply_grid ArcEnd r bs d h g = arc_grid r.filled _ _ d (displaced_grid _ _ g.0.at_point (point_grid _ bs h)) g
apply_grid Start r bs d h g =
    let p = point d.look.domain.three bs in
    let k = point_grid d.look.domain.three bs h in
    (move_grid p (with_command (with_start p d.command.kept d.command.noted d.command) d) k (g.0, start_grid p d.command.kept d k g.1.at_kept g), tt)
apply_grid Edge r bs d h g = edge_grid r.filled _ d (point_grid _ bs h) g
apply_grid StepSize r bs d h g =
    ((g.0, start_grid d.command.start _ d g.1.at_start (point_grid _ bs h) g), tt)
apply_grid LineCodes r bs d h g = (g, tt)
apply_grid PolygonCodes r bs d h g = (g, tt)
apply_grid Lengths r bs d h g = (g, tt)
apply_grid Pel r bs d h g = ((g.0, pel_grid _ d (point_grid _ bs h) g), tt)
apply_grid TextFirst r bs d h g = (g, tt)
apply_grid TextSecond r bs d h g = (g, tt)
apply_grid TextField r bs d h g = (field_grid _ d (record { grid = point_grid _ bs h; below = point_below _ bs }) g, tt)
apply_grid TextMore r bs d h g = (g, tt)
apply_grid Foreground r bs d h g = (g, tt)
apply_grid Background r bs d h g = (g, tt)
apply_grid Shade r bs d h g = colour_grid d.look.colour.mode _ _ _ d g
apply_grid Dropped r bs d h g = (g, tt)

begun_most : (o : Operand) → length o.bytes ≤ 8 → length (begun o) ≤ 8
unfolding begun
begun_most o h = omega (arith, length-take o.count o.bytes)

-- No operand is begun
unbegun : (d : Drawing) → DrawingOnGrid d → PlacesAt d.pen.point d.pen.text.cursor d.pen.text.field 8
unbegun d g =
    let p = g.0 in
    record {
      at_point = p.at_point;
      at_cursor = p.at_cursor;
      at_field = p.at_field;
      at_bytes = omega arith;
    }

begun_grid : (r : Row) (d : Drawing) → DrawingOnGrid d → OutcomeOnGrid (apply_begun r d)
unfolding apply_begun
begun_grid r d g =
    then_grid (apply (role_due r d) r (begun d.pen.operand) d) _
    (apply_grid (role_due r d) r (begun d.pen.operand) d (begun_most d.pen.operand g.0.at_bytes) g)
    (λ e h. ((unbegun e h, h.1), tt))

-- Data

byte_grid : (b : ℕ) (d : Drawing) → DrawingOnGrid d → DrawingOnGrid (with_byte b d)
byte_grid b d g =
    let o = d.pen.operand in
    let p = g.0 in (
      record {
        at_point = p.at_point;
        at_cursor = p.at_cursor;
        at_field = p.at_field;
        at_bytes = rw (length-set o.bytes o.count b) p.at_bytes;
      },
      g.1,
    )

-- The codes of an incremental command: a displacement is by the step or by nothing, and a sign change leaves a multiple

displacement_grid : (c : ℕ) (v : Point) → OnGrid v → OnGrid (displacement c v)
unfolding displacement
displacement_grid c v h =
    let P : ℕ → Type 0 = λ n. n % 256 ≡ 0 in (pick_all P (names_x c) h.0 refl, pick_all P (names_y c) h.1 refl)

negated_grid : (n : ℕ) → n % 256 ≡ 0 → negated n % 256 ≡ 0
unfolding negated
negated_grid n h = omega arith

sign_grid : (c : ℕ) (v : Point) → OnGrid v → OnGrid (sign_changed c v)
unfolding sign_changed
sign_grid c v h =
    let P : ℕ → Type 0 = λ n. n % 256 ≡ 0 in
    (pick_all P (names_x c) (negated_grid v.x h.0) h.0, pick_all P (names_y c) (negated_grid v.y h.1) h.1)

-- A code that is no move leaves the start, and a step that is a multiple
altered_grid : (o : Outline) (n : ℕ) (d : Drawing) → DrawingOnGrid d → DrawingOnGrid (with_command (altered o n d.command) d)
unfolding altered changed flag_changed
altered_grid o n d g =
    let c = d.command in
    let P : Command → Type 0 = λ e. PenOnGrid d.pen × FigureAt e.start e.kept d.look.domain.pel in
    pick_all P (change_due c.due)
    (pick_all P (eqb n 0) (by o) (g.0, start_grid c.start _ d g.1.at_start (sign_grid n c.kept g.1.at_kept) g)) g
  where
    by : (o : Outline) → unfold flag_changed in DrawingOnGrid (with_command (flag_changed o d.command) d)
    by Line = g
    by Polygon = g

code_grid : (o : Outline) (filled : Bool) (c : ℕ) (d : Drawing) → DrawingOnGrid d → OutcomeOnGrid (apply_code o filled c d)
code_grid o filled c d g =
    let v = displacement c d.command.kept in
    let k = displacement_grid c d.command.kept g.1.at_kept in
    code_all OutcomeOnGrid o filled c d (altered_grid o c d g, tt)
    (λ kind. draw_grid kind filled _ _ d (displaced_grid d.pen.point v g.0.at_point k) g, edge_grid filled v d k g)

codes_grid : (o : Outline) (filled : Bool) (cs : List ℕ) (d : Drawing) → DrawingOnGrid d → OutcomeOnGrid (apply_codes o filled cs d)
unfolding apply_codes
codes_grid o filled [] d g = (g, tt)
codes_grid o filled (c ∷ cs) d g =
    then_grid (apply_code o filled c d) _ (code_grid o filled c d g) (codes_grid o filled cs)

data_grid : (r : Row) (b : ℕ) (d : Drawing) → DrawingOnGrid d → OutcomeOnGrid (data_byte r b d)
unfolding data_byte take_byte
data_grid r b d g =
    let n = length_of (role_due r d) d.look.domain in
    pick_all OutcomeOnGrid (eqb n 0)
    (loose_all OutcomeOnGrid (role_due r d) r.filled b d (g, tt) (λ o. codes_grid o r.filled (codes b) d g))
    (pick_all OutcomeOnGrid (ltb (suc d.pen.operand.count) n) (byte_grid b d g, tt) (begun_grid r (with_byte b d) (byte_grid b d g)))

-- Closing

edge_back_grid : (filled : Bool) (d : Drawing) → DrawingOnGrid d → OutcomeOnGrid (closing_edge filled d)
unfolding closing_edge
edge_back_grid filled d g =
    let c = d.command in
    pick_all OutcomeOnGrid (has_edge c)
    (move_grid c.start d g.1.at_start g, (figure_grid d.look 5 _ d.pen.point c.start origin g.1.at_pel g.0.at_point g.1.at_start origin_grid, tt))
    (g, tt)

finish_grid : (x : Role) (filled : Bool) (d : Drawing) → DrawingOnGrid d → OutcomeOnGrid (finish x filled d)
finish_grid x filled d g =
    finish_all OutcomeOnGrid x filled d (g, tt) (arc_grid filled false d.command.start d g.1.at_start g) (edge_back_grid filled d g) (g, tt)
    (λ n. ((close_text_grid n d.pen g.0, g.1), tt))

close_grid : (d : Drawing) → DrawingOnGrid d → OutcomeOnGrid (close d)
unfolding close complete
close_grid d g =
    let r = row_of d.command.opcode in
    then_grid (complete r d) _ (pick_all OutcomeOnGrid (eqb d.pen.operand.count 0) (g, tt) (begun_grid r d g))
    (λ e h. then_grid (finish (role_due r e) r.filled e) _ (finish_grid (role_due r e) r.filled e h)
    (λ f k. ((unbegun f k, record { at_start = origin_grid; at_kept = origin_grid; at_pel = k.1.at_pel }), tt)))

-- Actions

open_grid : (o : ℕ) (d : Drawing) → DrawingOnGrid d → OutcomeOnGrid (open_command o d)
unfolding open_command
open_grid o d g =
    let p = g.0.at_point in
    let n = g.1.at_pel in
    ((g.0, record { at_start = p; at_kept = origin_grid; at_pel = n }), pick_all AllOnGrid (eqb (row_of o).kind 9) (mark_grid d.look 9 o d.pen.point n p, tt) tt)

marked_grid : (r : Drawing → Record) (f : Drawing → Drawing) (d : Drawing) → DrawingOnGrid d → ((e : Drawing) → DrawingOnGrid e → RecordOnGrid (r e)) → ((e : Drawing) → DrawingOnGrid e → DrawingOnGrid (f e)) → OutcomeOnGrid (marked r f d)
marked_grid r f d g h k = then_grid (close d) _ (close_grid d g) (λ e i. (k e i, (h e i, tt)))

control_grid : (b : ℕ) (e : Drawing) → DrawingOnGrid e → RecordOnGrid (control_record b e)
control_grid b e g = mark_grid e.look 7 b e.pen.point g.1.at_pel g.0.at_point

character_grid : (n b : ℕ) (e : Drawing) → DrawingOnGrid e → RecordOnGrid (character_record e.look n b e.pen.text)
unfolding character_record
character_grid n b e g = record_grid e.look 6 0 n b _ _ origin g.1.at_pel g.0.at_cursor.grid g.0.at_field.grid origin_grid

fresh_field_lem : Below (2 ^ 32) fresh_field
fresh_field_lem = record { grid = (refl, refl); below = (omega arith, omega arith) }

-- NSR puts pel and field to fresh
reset_grid : (d : Drawing) → DrawingOnGrid d → DrawingOnGrid (reset d)
unfolding reset_text
reset_grid d g =
    let p = g.0 in (
      record {
        at_point = p.at_point;
        at_cursor = p.at_cursor;
        at_field = fresh_field_lem;
        at_bytes = p.at_bytes;
      },
      record { at_start = g.1.at_start; at_kept = g.1.at_kept; at_pel = origin_grid },
    )

pub act_grid : (a : Action) (d : Drawing) → DrawingOnGrid d → OutcomeOnGrid (act a d)
unfolding act
act_grid Idle d g = (g, tt)
act_grid Close d g = close_grid d g
act_grid (Control b) d g = marked_grid _ _ d g (control_grid b) (λ e h. h)
act_grid (Cancel b) d g = marked_grid _ _ d g (control_grid b) (λ e h. h)
act_grid (Format f b) d g = marked_grid _ _ d g (control_grid b) (λ e h. (format_grid f e.pen h.0, h.1))
act_grid (Reset b) d g = marked_grid _ _ d g (control_grid b) reset_grid
act_grid (Position x r c) d g = ((place_grid x r c d.pen g.0, g.1), tt)
act_grid (Character x b) d g =
    marked_grid _ _ d g (character_grid (set_number x) b) (λ e h. (typed_grid x b e.pen h.0, h.1))
act_grid (Opcode o) d g = then_grid (close d) _ (close_grid d g) (open_grid o)
act_grid (Data b) d g = data_grid (row_of d.command.opcode) b d g

pub fresh_grid : DrawingOnGrid fresh_drawing
fresh_grid = (
  record {
    at_point = origin_grid;
    at_cursor = record { grid = origin_grid; below = (omega arith, omega arith) };
    at_field = fresh_field_lem;
    at_bytes = omega arith;
  },
  record { at_start = origin_grid; at_kept = origin_grid; at_pel = origin_grid },
)

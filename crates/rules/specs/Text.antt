-- "Text gets its place", 02, 2/13: the settings of TEXT, where the cursor stands, what moves it, and how it and the drawing point
-- follow each other. Numbers after 001 are lines of that source document; the other sentences are of its readings
use Rattle.std.specs.Prelude.{◌+◌, ◌*◌, ◌-◌, ◌/◌, ◌%◌, ◌^◌, ◌&&◌}
use Rattle.rules.specs.Prelude.{ℕ, Bool, true, false, not, ltb, leb, eqb}
use Rattle.rules.specs.Types.{Point, Pen, Due, First, Second, Third, Past, Rotation, Degrees0, Degrees90, Degrees180, Degrees270}
use Rattle.rules.specs.Types.{Path, Right, Left, Up, Down, Spacing, One, FiveFourths, ThreeHalves, Proportional}
use Rattle.rules.specs.Types.{Interrow, OneRow, FiveFourthsRow, ThreeHalvesRow, TwoRows}
use Rattle.rules.specs.Types.{Moving, Together, CursorLeads, PointLeads, Independent, Style, Underscore, Block, CrossHair, Custom}
use Rattle.rules.specs.Types.{Settings, Pair, NoPair, Automatic, ReturnSeen, FeedSeen, Text, Reach, FieldBox, Coordinate}
use Rattle.rules.specs.Types.{Repertoire, Primary, Supplementary, Mosaic, Drcs, Positioning, Aps, Nsr, Effector, Apb, Apf, Apd, Apu, Cs, Apr, Aph}
use Rattle.rules.specs.Numbers.{screen_side, display_top, fresh_width, fresh_height, origin}
use Rattle.rules.specs.Choice.{pick}

-- Numbers

-- "truncated toward zero to multiples of 256 units"
unfoldable pub trunc256 : ℕ → ℕ
trunc256 n = n / 256 * 256

unfoldable pub min : ℕ → ℕ → ℕ
min a b = pick (leb a b) a b

unfoldable pub max : ℕ → ℕ → ℕ
max a b = pick (leb a b) b a

-- The magnitude of a 32-bit pattern: W = |dx|, H = |dy|; "signs only mirror the pattern" (001:764, 884)
unfoldable pub magnitude : ℕ → ℕ
magnitude n = pick (ltb n (2 ^ 31)) n (2 ^ 32 - n)

-- The place that a pattern stands for: below zero from 2 ^ 31 on
unfoldable pub coordinate_of : ℕ → Coordinate
coordinate_of n = record { ahead = n; back = pick (ltb n (2 ^ 31)) 0 (2 ^ 32) }

abbrev pub positive : ℕ → Coordinate
positive n = record { ahead = n; back = 0 }

-- A place so much further, forwards or backwards
abbrev pub further : Bool → ℕ → Coordinate → Coordinate
further true n p = record { ahead = p.ahead + n; back = p.back }
further false n p = record { ahead = p.ahead; back = p.back + n }

-- One axis

-- "left ≤ x ≤ U - right": "touching the edge is inside" (001:2470)
unfoldable pub field_fits : Reach → Coordinate → Bool
field_fits r p = leb p.back p.ahead && (leb r.before (p.ahead - p.back) && leb (p.ahead - p.back) (screen_side - r.after))

-- Held on the screen: "trunc256(min(max(x, left), U - right, U - 256))" (001:852, 864, 2648). A place below zero counts as zero: no reach is negative.
-- "Every write of the cursor goes through this one function"
unfoldable pub held : Reach → Coordinate → ℕ
held r p = trunc256 (min (min (max (p.ahead - p.back) r.before) (screen_side - r.after)) (screen_side - 256))

-- "trunc256(extent × spacing)" and "trunc256(the other extent × interrow)" (001:772, 818): so many quarters of the extent on the axis
unfoldable pub stride : Reach → ℕ → ℕ
stride r quarters = trunc256 ((r.before + r.after) * quarters / 4)

-- The place a stride further
unfoldable pub after_stride : Reach → Bool → ℕ → ℕ → Coordinate
after_stride r w quarters c = further w (stride r quarters) (coordinate_of c)

-- The edge that a field comes in by when it moves forwards, and backwards: the least and the greatest place that fits
unfoldable pub entry_edge : Reach → Bool → Coordinate
entry_edge r true = positive r.before
entry_edge r false = positive (screen_side - r.after)

-- APD, APU: "a row step down, up"; "to the opposite edge: leaving downwards or to the left gives the greatest place that fits, else the least" (001:1552, 1592, 1839)
unfoldable pub row_step : Reach → Bool → ℕ → ℕ → Coordinate
row_step r w quarters c = pick (field_fits r (after_stride r w quarters c)) (after_stride r w quarters c) (entry_edge r w)

-- "cross-hair and custom the field's centre, each half trunc256" (001:854)
unfoldable pub half : ℕ → ℕ
half n = trunc256 (n / 2)

-- The field

-- "reach (left, right, down, up) from the origin": W and H
unfoldable pub turned_box : Rotation → ℕ → ℕ → FieldBox
turned_box Degrees0 w h = record { x = record { before = 0; after = w }; y = record { before = 0; after = h } }
turned_box Degrees90 w h = record { x = record { before = h; after = 0 }; y = record { before = 0; after = w } }
turned_box Degrees180 w h = record { x = record { before = w; after = 0 }; y = record { before = h; after = 0 } }
turned_box Degrees270 w h = record { x = record { before = 0; after = h }; y = record { before = w; after = 0 } }

unfoldable pub box_of : Rotation → Point → FieldBox
box_of r f = turned_box r (magnitude f.x) (magnitude f.y)

abbrev pub field_box : Text → FieldBox
field_box t = box_of t.settings.rotation t.field

-- "spacing 1, 5/4, 3/2, proportional which counts as 1"; "interrow 1, 5/4, 3/2, 2": in quarters
unfoldable pub spacing_quarters : Spacing → ℕ
spacing_quarters One = 4
spacing_quarters FiveFourths = 5
spacing_quarters ThreeHalves = 6
spacing_quarters Proportional = 4

unfoldable pub interrow_quarters : Interrow → ℕ
interrow_quarters OneRow = 4
interrow_quarters FiveFourthsRow = 5
interrow_quarters ThreeHalvesRow = 6
interrow_quarters TwoRows = 8

-- Directions

abbrev pub opposite : Path → Path
opposite Right = Left
opposite Left = Right
opposite Up = Down
opposite Down = Up

-- "Down a row is the path turned by -90 degrees" (001:818)
abbrev pub row_direction : Path → Path
row_direction Right = Down
row_direction Left = Up
row_direction Up = Right
row_direction Down = Left

unfoldable pub along_x : Path → Bool
along_x Right = true
along_x Left = true
along_x Up = false
along_x Down = false

unfoldable pub forwards : Path → Bool
forwards Right = true
forwards Left = false
forwards Up = true
forwards Down = false

abbrev pub on_axis : {A : Type 0} → Path → A → A → A
on_axis d x y = pick (along_x d) x y

-- The state with one part replaced

abbrev pub with_text : Text → Pen → Pen
with_text t s = record { point = s.point; text = t; operand = s.operand }

abbrev pub with_cursor : Point → Pair → Text → Text
with_cursor c w t = record { settings = t.settings; field = t.field; cursor = c; pair = w }

abbrev pub with_pair : Pair → Text → Text
with_pair w t = with_cursor t.cursor w t

abbrev pub with_settings : Settings → Text → Text
with_settings x t = record { settings = x; field = t.field; cursor = t.cursor; pair = t.pair }

abbrev pub with_field : Point → Text → Text
with_field f t = record { settings = t.settings; field = f; cursor = t.cursor; pair = t.pair }

abbrev pub paired : Pair → Pen → Pen
paired w s = with_text (with_pair w s.text) s

-- Point and cursor

-- "Offset: underscore and block 0; cross-hair and custom the field's centre": the reach that counts
unfoldable pub offset : Style → Reach → Reach
offset Underscore r = record { before = 0; after = 0 }
offset Block r = record { before = 0; after = 0 }
offset CrossHair r = record { before = half r.before; after = half r.after }
offset Custom r = record { before = half r.before; after = half r.after }

-- "point = cursor + offset", as a pattern. Of a cursor that is held the sum is exact
unfoldable pub point_on : Reach → ℕ → ℕ
point_on o c = (c + o.after + (2 ^ 32 - o.before)) % 2 ^ 32

unfoldable pub point_at : Text → Point
point_at t =
    let o = t.settings.style in
    record { x = point_on (offset o (field_box t).x) t.cursor.x; y = point_on (offset o (field_box t).y) t.cursor.y }

-- "cursor = point - offset, held on the screen; the sum is taken on signed numbers, not wrapped" (001:852)
unfoldable pub cursor_on : Style → Reach → ℕ → ℕ
cursor_on o r p = held r (further true (offset o r).before (further false (offset o r).after (coordinate_of p)))

unfoldable pub cursor_at : Text → Point → Point
cursor_at t p =
    let o = t.settings.style in
    record { x = cursor_on o (field_box t).x p.x; y = cursor_on o (field_box t).y p.y }

-- "Cursor set, move together or cursor leads: point = cursor + offset" (001:844, 846)
unfoldable pub led : Moving → Text → Point → Point
led Together t p = point_at t
led CursorLeads t p = point_at t
led PointLeads t p = p
led Independent t p = p

abbrev pub aligned : Text → Pen → Pen
aligned t s = record { point = led t.settings.moving t s.point; text = t; operand = s.operand }

-- "Point moved by drawing, move together or point leads: cursor = point - offset" (001:844, 848). "The point is never pulled back"
unfoldable pub following : Moving → Point → Text → Text
following Together p t = with_cursor (cursor_at t p) NoPair t
following CursorLeads p t = t
following PointLeads p t = with_cursor (cursor_at t p) NoPair t
following Independent p t = t

abbrev pub follow : Point → Pen → Pen
follow p s = record { point = p; text = following s.text.settings.moving p s.text; operand = s.operand }

-- The cursor set: both axes are held, then the point is aligned. "A control that sets the cursor where it stood still aligns"
unfoldable pub set_cursor : Coordinate → Coordinate → Pen → Pen
set_cursor x y s =
    let t = s.text in
    aligned (with_cursor (record { x = held (field_box t).x x; y = held (field_box t).y y }) NoPair t) s

-- The movers

-- The cursor's coordinate on the axis of a direction, the field's reach there, and the cursor set on that axis alone
abbrev pub cursor_along : Path → Text → ℕ
cursor_along d t = on_axis d t.cursor.x t.cursor.y

abbrev pub reach_along : Path → Text → Reach
reach_along d t = on_axis d (field_box t).x (field_box t).y

unfoldable pub set_along : Path → Coordinate → Pen → Pen
set_along d p s =
    let c = s.text.cursor in
    set_cursor (on_axis d p (coordinate_of c.x)) (on_axis d (coordinate_of c.y) p) s

-- Along the path forwards, or against it, by the spacing; "Only the axis that moves is tested"
unfoldable pub next_along : Path → Text → Coordinate
next_along d t = after_stride (reach_along d t) (forwards d) (spacing_quarters t.settings.spacing) (cursor_along d t)

unfoldable pub fits_next : Path → Text → Bool
fits_next d t = field_fits (reach_along d t) (next_along d t)

-- To the edge that a field comes in by when it moves in a direction
unfoldable pub enter : Path → Pen → Pen
enter d s = set_along d (entry_edge (reach_along d s.text) (forwards d)) s

unfoldable pub row_in : Path → Pen → Pen
row_in d s =
    let t = s.text in
    set_along d (row_step (reach_along d t) (forwards d) (interrow_quarters t.settings.interrow) (cursor_along d t)) s

unfoldable pub row_down : Pen → Pen
row_down s = row_in (row_direction s.text.settings.path) s

unfoldable pub row_up : Pen → Pen
row_up s = row_in (opposite (row_direction s.text.settings.path)) s

-- APR: "first position along the path; the other coordinate stays" (001:1600)
unfoldable pub first_position : Pen → Pen
first_position s = enter s.text.settings.path s

-- "automatic APR, then APD (001:830, 1548), at once"; "the cursor is wrapped"
unfoldable pub automatic_pair : Pen → Pen
automatic_pair s = paired Automatic (row_down (first_position s))

-- "advance after a spacing character, APF 0/9"
unfoldable pub advance : Pen → Pen
advance s =
    let d = s.text.settings.path in
    pick (fits_next d s.text) (set_along d (next_along d s.text) s) (automatic_pair s)

-- APB 0/8: "against the path"; "to the far edge along the path, then an automatic APU (001:1544)"
unfoldable pub apb : Pen → Pen
apb s =
    let d = opposite s.text.settings.path in
    pick (fits_next d s.text) (set_along d (next_along d s.text) s) (row_up (enter d s))

-- CS 0/12, APH 1/14: "x = left, y = 1677721600 - up, held on the screen"
unfoldable pub home : Pen → Pen
home s = set_cursor (positive (field_box s.text).x.before) (record { ahead = display_top; back = (field_box s.text).y.after }) s

-- "The null pair" (001:830)

unfoldable pub return_in : Pair → Pen → Pen
return_in NoPair s = first_position s
return_in Automatic s = paired ReturnSeen s
return_in ReturnSeen s = s
return_in (FeedSeen p) s = set_cursor (coordinate_of p.x) (coordinate_of p.y) s

unfoldable pub feed_in : Pair → Pen → Pen
feed_in NoPair s = row_down s
feed_in Automatic s = paired (FeedSeen s.text.cursor) (row_down s)
feed_in ReturnSeen s = paired NoPair s
feed_in (FeedSeen p) s = row_down s

-- APR 0/13 and APD 0/10 as they are received
abbrev pub apr : Pen → Pen
apr s = return_in s.text.pair s

abbrev pub apd : Pen → Pen
apd s = feed_in s.text.pair s

-- The format effectors
abbrev pub formatted : Effector → Pen → Pen
formatted Apb s = apb s
formatted Apf s = advance s
formatted Apd s = apd s
formatted Apu s = row_up s
formatted Cs s = home s
formatted Apr s = apr s
formatted Aph s = home s

-- Characters

-- "Characters advance, but for supplementary 4/0 to 4/15, in any element, which write kind 6 and move nothing" (001:509)
unfoldable pub spaces : Repertoire → ℕ → Bool
spaces Primary b = true
spaces Supplementary b = not (eqb (b / 16) 4)
spaces Mosaic b = true
spaces Drcs b = true

unfoldable pub typed : Repertoire → ℕ → Pen → Pen
typed x b s = pick (spaces x b) (advance s) s

-- TEXT 2/2

-- "Codes 00 01 10 11 in the order above"
abbrev pub coded : {A : Type 0} → ℕ → A → A → A → A → A
coded n a b c d = pick (eqb n 0) a (pick (eqb n 1) b (pick (eqb n 2) c d))

-- "Byte 1: b6 b5 spacing, b4 b3 path, b2 b1 rotation"
unfoldable pub byte_one : ℕ → Settings → Settings
byte_one b s =
    record {
      rotation = coded (b % 4) Degrees0 Degrees90 Degrees180 Degrees270;
      path = coded (b / 4 % 4) Right Left Up Down;
      spacing = coded (b / 16 % 4) One FiveFourths ThreeHalves Proportional;
      interrow = s.interrow;
      moving = s.moving;
      style = s.style;
    }

-- "Byte 2: b6 b5 style, b4 b3 move, b2 b1 interrow"
unfoldable pub byte_two : ℕ → Settings → Settings
byte_two b s =
    record {
      rotation = s.rotation;
      path = s.path;
      spacing = s.spacing;
      interrow = coded (b % 4) OneRow FiveFourthsRow ThreeHalvesRow TwoRows;
      moving = coded (b / 4 % 4) Together CursorLeads PointLeads Independent;
      style = coded (b / 16 % 4) Underscore Block CrossHair Custom;
    }

abbrev pub with_first : ℕ → Text → Text
with_first b t = with_settings (byte_one b t.settings) t

abbrev pub with_second : ℕ → Text → Text
with_second b t = with_settings (byte_two b t.settings) t

-- "a missing byte 2, or both bytes missing, count as zero" (001:2642)
unfoldable pub with_missing : Due → Settings → Settings
with_missing First s = byte_two 0 (byte_one 0 s)
with_missing Second s = byte_two 0 s
with_missing Third s = s
with_missing Past s = s

-- Closing: "then the cursor is held on the screen, then, if move is together or cursor leads, the point is aligned" (001:864)
unfoldable pub close_text : Due → Pen → Pen
close_text n s =
    let t = with_settings (with_missing n s.text.settings) s.text in
    set_cursor (coordinate_of t.cursor.x) (coordinate_of t.cursor.y) (with_text t s)

-- "fresh": "1/40 cut to a multiple of 256 and 5/128" (001:888)
abbrev pub fresh_settings : Settings
fresh_settings =
    record {
      rotation = Degrees0;
      path = Right;
      spacing = One;
      interrow = OneRow;
      moving = Together;
      style = Underscore;
    }

abbrev pub fresh_field : Point
fresh_field = record { x = fresh_width; y = fresh_height }

abbrev pub fresh_text : Text
fresh_text = record { settings = fresh_settings; field = fresh_field; cursor = origin; pair = NoPair }

-- Row and column

-- APS 1/12: "values byte - 32", "x = column × W, y = row × H at rotation 0 and spacing 1, then held on the screen with the field as rotated" (001:1558, 1562)
unfoldable pub addressed : ℕ → ℕ → Pen → Pen
addressed row column s =
    let f = s.text.field in
    set_cursor (positive ((column - 32) * magnitude f.x)) (positive ((row - 32) * magnitude f.y)) s

-- NSR at the 1/15: "all TEXT settings and the field to fresh"; "cursor and point stay"; "so does 1/15" lead to none
unfoldable pub reset_text : Text → Text
reset_text t = with_cursor t.cursor NoPair fresh_text

-- NSR: "values byte - 64: x = column × 53687040, y = 1677721600 - (row + 1) × 83886080, held on the screen" (001:1663, 2648)
unfoldable pub positioned : ℕ → ℕ → Pen → Pen
positioned row column s =
    set_cursor (positive ((column - 64) * fresh_width)) (record { ahead = display_top; back = (row - 64 + 1) * fresh_height }) s

abbrev pub placed_by : Positioning → ℕ → ℕ → Pen → Pen
placed_by Aps row column s = addressed row column s
placed_by Nsr row column s = positioned row column s

-- The definitions of this file, unfolded where a reading is computed
unfoldable pub text_rules : Unit {0}
unfolding trunc256 min max magnitude coordinate_of field_fits held stride after_stride entry_edge row_step half turned_box box_of
    spacing_quarters interrow_quarters along_x forwards offset point_on point_at cursor_on cursor_at led following set_cursor set_along
    next_along fits_next enter row_in row_down row_up first_position automatic_pair advance apb home return_in feed_in spaces typed byte_one byte_two
    with_missing close_text addressed reset_text positioned
text_rules = tt

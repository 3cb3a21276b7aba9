-- What is claimed of every page, cut, buffer and macro, proved in proofs/Cutting, Expanding and Demand3; of the coordinates of every
-- record and of the cursor, proved in proofs/Places; of colours cut short, proved in proofs/Colours; of CAN, proved in
-- proofs/Cancelling; and of incremental outlines, proved in proofs/Outlines
use Rattle.std.specs.Prelude.{◌+◌, ◌*◌, ◌-◌, ◌/◌, ◌%◌, ◌^◌, ◌<◌, ◌≤◌, ◌≡◌, ◌||◌, ◌∷◌, ◌++◌}
use Rattle.rules.specs.Prelude.{ℕ, suc, Bool, true, false, List, [], length, take, eqb}
use Rattle.rules.specs.Types.{Done, Full, Pdi, Close, Point, Text, Record, Reach, Second, Outline, Polygon, Drawing, Refusal, TooManyVertices, Aps, Nsr}
use Rattle.rules.specs.Types.{Waiting, Nothing, Shifted, Escape, Designator, Longer, Name, Body, BodyEscape, Row·waiting as Row, Column}
use Rattle.rules.specs.Numbers.{can, most_vertices, screen_side}
use Rattle.rules.specs.Operands.{wrapped_sum}
use Rattle.rules.specs.Record.{bytes_of_all}
use Rattle.rules.specs.Text.{positive, field_fits, field_box}
use Rattle.rules.specs.Bodies.{bytes_left, leave_all}
use Rattle.rules.specs.Coding.{wait, set_of}
use Rattle.rules.specs.Increments.{names_x, names_y, change_due, moves_in}
use Rattle.rules.specs.Drawing.{with_command, with_due, with_step, Outcome, NotDrawn, Draw, apply_code, apply_codes, shade_to, closed, control_record, act}
use Rattle.rules.specs.Step.{State, stepped, remove_spent, Source, Found, seek, Stops, Goes, interpret}
use Rattle.rules.specs.Reading.{Reading, Limit, Steps, read_to, undivided, Waits}
use Rattle.rules.specs.Calls.{Terms, fresh_state, end, Lent, feeds, lent_bytes}
use Rattle.rules.specs.Expansion.{undropped, expand, expansion, end_page, Accepted, all_records, SameState, SamePage}

-- Cuts and buffers: what a list of one or more feeds from the session and store w hands over. Its last answer, joined records, bytes
-- consumed in all, session with its step count and store are those of the undivided reading of all the bytes lent; where the answer is
-- full, those of the reading after as many accepted steps as the session counts more than at first, spent bodies removed, and something
-- is still left to read there
pub record ReadsUndivided (w : State) (c : Lent) (cs : List Lent) : Type 0 where
  pub not_full : ((feeds w [] c cs).answer ≡ Full → ⊥) → feeds w [] c cs ≡ undivided w (lent_bytes c cs)
  pub full : (feeds w [] c cs).answer ≡ Full
      → feeds w [] c cs ≡ read_to (Steps ((feeds w [] c cs).state.session.steps - w.session.steps)) w (lent_bytes c cs)
  pub waits : (feeds w [] c cs).answer ≡ Full → Waits (feeds w [] c cs) (lent_bytes c cs)

-- Macros: the expansion of a page is accepted, and has the same records and leaves the same state
pub record Expanded (terms : Terms) (page : List ℕ) : Type 0 where
  pub accepted : Accepted terms (expansion terms page)
  pub same : SamePage terms page (expansion terms page)

-- Both: a list of feeds from a fresh session, and an end call after it, against the expansion of the bytes lent
pub record DrawsAlike (terms : Terms) (c : Lent) (cs : List Lent) (out : List ℕ) : Type 0 where
  pub accepted : Accepted terms (expansion terms (lent_bytes c cs))
  pub records : (feeds (fresh_state terms) [] c cs).records
      ++ take (end (feeds (fresh_state terms) [] c cs).state out).written (end (feeds (fresh_state terms) [] c cs).state out).output
      ≡ all_records terms (expansion terms (lent_bytes c cs))
  pub state : SameState (end (feeds (fresh_state terms) [] c cs).state out).state (end_page terms (expansion terms (lent_bytes c cs))).state

-- Multiples of 256

-- Both coordinates of a point, or both sizes of the pel, are multiples of 256
abbrev pub OnGrid : Point → Type 0
OnGrid p = (p.x % 256 ≡ 0) × (p.y % 256 ≡ 0)

-- So are the pel of a record, and its points in every kind but 8, where they are G, R, B
pub record RecordOnGrid (r : Record) : Type 0 where
  pub pel : OnGrid r.pel
  pub points : (r.kind ≡ 8 → ⊥) → OnGrid r.p0 × OnGrid r.p1 × OnGrid r.p2

abbrev pub AllOnGrid : List Record → Type 0
AllOnGrid [] = Unit {0}
AllOnGrid (r ∷ rs) = RecordOnGrid r × AllOnGrid rs

-- Bytes that are those of such records, end to end
pub record WrittenOnGrid (bytes : List ℕ) : Type 0 where
  pub records : List Record
  pub laid : bytes ≡ bytes_of_all records
  pub all : AllOnGrid records

-- Records: from a fresh session, all that the undivided reading of a page and its end call write, and all that a list of feeds and an
-- end call write, is such bytes, whatever any of them answers
pub record DrawsOnGrid (terms : Terms) : Type 0 where
  pub pages : (page : List ℕ) → WrittenOnGrid (all_records terms page)
  pub calls : (c : Lent) (cs : List Lent) (out : List ℕ)
      → WrittenOnGrid ((feeds (fresh_state terms) [] c cs).records
      ++ take (end (feeds (fresh_state terms) [] c cs).state out).written (end (feeds (fresh_state terms) [] c cs).state out).output)

-- The cursor

-- TEXT 2/2 is open: its bytes change settings and field as they come, and its closing holds the cursor
abbrev pub text_open : Drawing → Bool
text_open d = eqb d.command.opcode 34

-- The row or column byte of NSR is due: settings and field are fresh, the cursor is not yet set
abbrev pub nsr_due : Waiting → Bool
nsr_due Nothing = false
nsr_due (Shifted s) = false
nsr_due Escape = false
nsr_due (Designator e) = false
nsr_due Longer = false
nsr_due Name = false
nsr_due (Body d) = false
nsr_due (BodyEscape d) = false
nsr_due (Row Aps) = false
nsr_due (Row Nsr) = true
nsr_due (Column Aps r) = false
nsr_due (Column Nsr r) = true

-- On one axis the field fits where the cursor stands; but a field that reaches back over the whole screen would fit at U alone, so its
-- cursor stands at the last place, U - 256
pub data FitsAt (r : Reach) (c : ℕ) : Type 0 where
  fits_there : field_fits r (positive c) ≡ true → FitsAt r c
  last_place : r.before ≡ screen_side → c ≡ screen_side - 256 → FitsAt r c

abbrev pub FieldFits : Text → Type 0
FieldFits t = FitsAt (field_box t).x t.cursor.x × FitsAt (field_box t).y t.cursor.y

-- The cursor is a multiple of 256 and on the screen; unless something is still to set it, its field fits
pub record CursorHeld (unset : Bool) (t : Text) : Type 0 where
  pub multiple : OnGrid t.cursor
  pub on_screen : (t.cursor.x < screen_side) × (t.cursor.y < screen_side)
  pub fitting : unset ≡ false → FieldFits t

abbrev pub cursor_unset : State → Bool
cursor_unset w = nsr_due w.session.coding.waiting || text_open w.session.drawing

abbrev pub CursorHeldIn : State → Type 0
CursorHeldIn w = CursorHeld (cursor_unset w) w.session.drawing.pen.text

-- Cursors: so it stands, from a fresh session, after every step of every page and after its end call, and after a list of feeds and an
-- end call, whatever any of them answers. After an accepted page its field fits
pub record HoldsCursor (terms : Terms) : Type 0 where
  pub steps : (l : Limit) (page : List ℕ) → CursorHeldIn (read_to l (fresh_state terms) page).state
  pub ended : (page : List ℕ) → CursorHeldIn (end_page terms page).state
  pub accepted : (page : List ℕ) → Accepted terms page → FieldFits (end_page terms page).state.session.drawing.pen.text
  pub fed : (c : Lent) (cs : List Lent) → CursorHeldIn (feeds (fresh_state terms) [] c cs).state
  pub closed : (c : Lent) (cs : List Lent) (out : List ℕ) → CursorHeldIn (end (feeds (fresh_state terms) [] c cs).state out).state

-- Colours cut short

-- The next bytes of the page are read in PDI: it is in use, nothing is waited for, and no body has a byte left
pub record ReadsPdi (w : State) : Type 0 where
  pub pdi : set_of w.session.coding.sets.used w.session.coding.sets ≡ Pdi
  pub nothing : w.session.coding.waiting ≡ Nothing
  pub no_body : (remove_spent w).session.bodies.depth ≡ 0

-- SET COLOUR 3/12, and then data
abbrev pub set_colour : State → List ℕ → Reading
set_colour w bs = undivided w (60 ∷ bs)

abbrev pub drawing_left : Reading → Drawing
drawing_left x = x.state.session.drawing

-- Read from w, SET COLOUR with the data bs gives the colour g, r, b: once it is opened, d, `shade_to` is what it does by its mode, which
-- in mode 0 sets the colour, in modes 1 and 2 writes the map at the foreground and the record of kind 8. Data that complete the operand
-- have done so by their end. When the command is closed it is done in any case: all that closes a command does `Close` before it acts
pub record GivesColour (w : State) (bs : List ℕ) (g r b : ℕ) : Type 0 where
  pub accepted : (set_colour w bs).answer ≡ Done
  pub shaded : Drawing
  pub written : List Record
  pub given : let d = drawing_left (set_colour w []) in shade_to d.look.colour.mode g r b d ≡ Draw shaded written
  pub completed : (drawing_left (set_colour w [])).look.domain.multi ≤ length bs
      → ((drawing_left (set_colour w bs)).look ≡ shaded.look) × ((drawing_left (set_colour w bs)).map ≡ shaded.map)
      × ((set_colour w bs).records ≡ (set_colour w []).records ++ bytes_of_all written)
  pub closing : List Record
  pub closes : act Close (drawing_left (set_colour w bs)) ≡ Draw (closed shaded) closing
  pub all : (set_colour w bs).records ++ bytes_of_all closing ≡ (set_colour w []).records ++ bytes_of_all written

-- ".. the first 2k of the whole one's eight bits, the rest zero."
abbrev pub lost_bits : ℕ → ℕ
lost_bits k = 8 - 2 * k

abbrev pub cut_after : ℕ → ℕ → ℕ
cut_after k v = v / 2 ^ lost_bits k * 2 ^ lost_bits k

-- 02, 3/13: "SET COLOUR data cut after k bytes, k at least 1, gives each colour the first 2k of the whole one's eight bits, the rest
-- zero."
pub record CutColour (w : State) (bs : List ℕ) (k : ℕ) : Type 0 where
  pub green : ℕ
  pub red : ℕ
  pub blue : ℕ
  pub whole : GivesColour w bs green red blue
  pub cut : GivesColour w (take k bs) (cut_after k green) (cut_after k red) (cut_after k blue)

-- CAN

-- A control is read as one where nothing is waited for, or a shift or a sequence that it drops: not in a definition, as a name, a row or a
-- column
abbrev pub TakesControl : Waiting → Type 0
TakesControl Nothing = Unit {0}
TakesControl (Shifted s) = Unit {0}
TakesControl Escape = Unit {0}
TakesControl (Designator e) = Unit {0}
TakesControl Longer = Unit {0}
TakesControl Name = ⊥
TakesControl (Body d) = ⊥
TakesControl (BodyEscape d) = ⊥
TakesControl (Row x) = ⊥
TakesControl (Column x r) = ⊥

-- 02, 4/13: a 1/8 that took w to u. It closed the open command, then wrote its record, then left every body; what was waited for is
-- dropped, and all else is as it was. No body has a byte left, so that an end call gives no 11. From the page it leaves none
pub record Cancelled (w u : State) (rs : List Record) : Type 0 where
  pub shut : Drawing
  pub closing : List Record
  pub closes : act Close w.session.drawing ≡ Draw shut closing
  pub writes : rs ≡ closing ++ (control_record can shut ∷ [])
  pub leaves : u ≡ stepped (leave_all w.session.bodies) (wait Nothing w.session.coding) shut w.store w
  pub none_left : bytes_left u.store u.session.bodies ≡ false
  pub from_page : w.session.bodies.depth ≡ 0 → u.session.bodies ≡ w.session.bodies

-- Interpreted in any state and from any source it does so, or is refused as closing is
pub record CancelsBodies (w : State) (s : Source) : Type 0 where
  pub accepted : (u : State) (rs : List Record) → interpret w s can ≡ Goes u rs → Cancelled w u rs
  pub refused : (r : Refusal) → interpret w s can ≡ Stops r → act Close w.session.drawing ≡ NotDrawn r

-- 02, 4/13: "Unread bytes of the bodies left are not part of the expansion, ..": where the byte sought is such a 1/8 and took v to u, it is
-- part of the expansion, which goes on from u with what is left of the page; no body runs there
abbrev pub ExpandsCancel : State → List ℕ → Type 0
ExpandsCancel w bs =
    (n : ℕ) (held r : List ℕ) (v u : State) (s : Source) (rs : List Record)
    → seek (remove_spent w) bs ≡ Found can v s r → interpret v s can ≡ Goes u rs
    → (expand (suc n) w bs held ≡ undropped w.session.coding can held ++ (can ∷ expand n u r [])) × (u.session.bodies.depth ≡ 0)

-- Incremental outlines

-- An outcome that is no refusal
abbrev pub Draws : Outcome → Type 0
Draws (NotDrawn r) = ⊥
Draws (Draw e rs) = Unit {0}

-- The vertices that a polygon would have after codes: those that it has, and one for each move among them
abbrev pub vertices_after : List ℕ → Drawing → ℕ
vertices_after cs d = d.command.vertices + moves_in Polygon cs (change_due d.command.due)

-- 02, 5/13: "The vertex limit and the polygon's closing apply to 3/11, ..", 01: "A refused step changes nothing but the stop". The codes of
-- a data byte, or any others, of a polygon are refused exactly when their moves lead over the limit, be it the first of them or a later one
-- that does, and then nothing of them is written or moved; else they draw
pub record RefusesWhole (filled : Bool) (cs : List ℕ) (d : Drawing) : Type 0 where
  pub over : most_vertices < vertices_after cs d → apply_codes Polygon filled cs d ≡ NotDrawn TooManyVertices
  pub within : vertices_after cs d ≤ most_vertices → Draws (apply_codes Polygon filled cs d)

-- A coordinate of the step before and after a change of sign: where the code names it, the 32-bit one that makes 0 with it, wrapping; else
-- itself
abbrev pub SignChanges : Bool → ℕ → ℕ → Type 0
SignChanges true n m = (m < 2 ^ 32) × (wrapped_sum n m ≡ 0)
SignChanges false n m = m ≡ n

-- 02, 5/13: "A sign change wraps at 32 bits and marks nothing." No record is written; pen, look and map stay, and of the command all but
-- the step and what is due, which is a move
pub record ChangesSign (o : Outline) (filled : Bool) (code : ℕ) (d : Drawing) : Type 0 where
  pub step : Point
  pub does : apply_code o filled code d ≡ Draw (with_command (with_due Second (with_step step d.command.noted d.command)) d) []
  pub dx : SignChanges (names_x code) d.command.kept.x step.x
  pub dy : SignChanges (names_y code) d.command.kept.y step.y

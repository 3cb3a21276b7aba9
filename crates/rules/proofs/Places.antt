-- Every reading from a fresh session: the coordinates of its records are multiples of 256, and its cursor is held with its field fitting
use Rattle.std.specs.Prelude.{◌+◌, ◌*◌, ◌<◌, ◌≡◌, ◌∷◌, ◌++◌}
use Rattle.rules.specs.Prelude.{ℕ, zero, suc, zero-add, suc-add, arith, refl, sym, ap, ap₂, ◌∙◌, subst, Bool, true, false, List, [], length, get_or, ltb, eqb}
use Rattle.rules.specs.Types.{Repertoire, Primary, Supplementary, Mosaic, Drcs, Set, Characters, Pdi, Macro, Element, Definition}
use Rattle.rules.specs.Types.{Waiting, Nothing, Shifted, Escape, Designator, Longer, Name, Body, BodyEscape, Row·waiting as Row, Column}
use Rattle.rules.specs.Types.{Coding, Control, Ignored, Locks, Shifts, Escapes, Recorded, Cancels, Formats, Positions, Positioning, Aps, Nsr}
use Rattle.rules.specs.Types.{Class, Below, Column2, Above, Final, Opens, Refuses, UsesG2, UsesG3, Closes, NoMeaning}
use Rattle.rules.specs.Types.{Option, Some, None, Inner, OpensNext, Bars, EndsBody, StartsAfresh, StoresBoth}
use Rattle.rules.specs.Types.{Action, Idle, Close, Position, Opcode, Data, Drawing, Record, Cursor, Refusal, Result, Ok, Err, Done}
use Rattle.rules.specs.Numbers.{esc, room_for_step}
use Rattle.rules.specs.Choice.{pick}
use Rattle.rules.specs.Record.{word, words, bytes_of, bytes_of_all}
use Rattle.rules.specs.Store.{first_of, Storing, NotStored, Stored, store_byte, store_escape_and, Freeing, NotFreed, Freed, free_body}
use Rattle.rules.specs.Bodies.{bytes_left, body_at, read_body}
use Rattle.rules.specs.Coding.{Reaction, Refuse, Call, React, set_of, shifted_to, wait, named, open_body, keep, filling, in_body, inner_of, in_body_escape, final_of, escape, designated_by, designation, control, address_byte, character, graphic, class_of, react_to, react, unfinished}
use Rattle.rules.specs.Drawing.{Outcome, NotDrawn, Draw, act}
use Rattle.rules.specs.Step.{State, remove_spent, Source, Sought, NothingLeft, Spoilt, Found, from_body, seek_at, seek, Move, Stops, Goes, interpret}
use Rattle.rules.specs.Reading.{Reading, Limit, Room, Always, steps_left, reading, tests, on_verdict, read_to, undivided}
use Rattle.rules.specs.Calls.{Terms, fresh_state, feed, unread, ended, end_checks, ending, end, Lent, returned, feeds}
use Rattle.rules.specs.Expansion.{read_page, end_page, all_records}
use Rattle.rules.specs.Statements.{RecordOnGrid, AllOnGrid, WrittenOnGrid, DrawsOnGrid, text_open, nsr_due, cursor_unset, CursorHeldIn, HoldsCursor}
use Rattle.rules.proofs.Bools.{true_false, pick_all}
use Rattle.rules.proofs.DrawingRanges.{Drawn}
use Rattle.rules.proofs.RecordCount.{record_length, records_append}
use Rattle.rules.proofs.Multiples.{DrawingOnGrid, OutcomeOnGrid, all_append, act_grid, fresh_grid}
use Rattle.rules.proofs.Cursors.{HeldUnless, resets, settles, SettledAs, act_settles, close_closes, fresh_settled, stays_fits}
use Rattle.rules.proofs.Steps.{Change, refused, called, reacted, interpret_change}
use Rattle.rules.proofs.Readings.{Reads, done, full, halt, step, reads, full_done, refused_done}
use Rattle.rules.proofs.Cutting.{returned_handed}

-- What a byte asks, while NSR waits or not

abbrev ReactionSettles : Bool → Reaction → Type 0
ReactionSettles before (Refuse r) = Unit {0}
ReactionSettles before (Call c n) = before ≡ false
ReactionSettles before (React c st a) = settles before a (nsr_due c.waiting) ≡ true

control_settles : (k : Control) (c : Coding) (st : List ℕ) (b : ℕ) → ReactionSettles false (control k (wait Nothing c) st b)
unfolding control
control_settles Ignored c st b = refl
control_settles (Locks e) c st b = refl
control_settles (Shifts s) c st b = refl
control_settles Escapes c st b = refl
control_settles Recorded c st b = refl
control_settles Cancels c st b = refl
control_settles (Formats f) c st b = refl
control_settles (Positions Aps) c st b = refl
control_settles (Positions Nsr) c st b = refl

abbrev NoReset : Action → Type 0
NoReset a = resets a ≡ false

none_settles : (a : Action) (after : Bool) → NoReset a → settles false a after ≡ true
none_settles a after e = rw e

character_none : (x : Repertoire) (b : ℕ) → NoReset (character x b)
unfolding character
character_none Primary b = pick_all NoReset (eqb b 127) refl refl
character_none Supplementary b = pick_all NoReset (eqb b 127) refl refl
character_none Mosaic b = refl
character_none Drcs b = refl

pdi_none : (b : ℕ) → NoReset (pick (ltb b 64) (Opcode b) (Data b))
pdi_none b = pick_all NoReset (ltb b 64) refl refl

graphic_settles : (x : Set) (c : Coding) (st : List ℕ) (b : ℕ) → ReactionSettles false (graphic x (wait Nothing c) st b)
unfolding graphic
graphic_settles (Characters x) c st b = none_settles (character x b) false (character_none x b)
graphic_settles Pdi c st b = none_settles (pick (ltb b 64) (Opcode b) (Data b)) false (pdi_none b)
graphic_settles Macro c st b = refl

escape_settles : (x : Final) (c : Coding) (st : List ℕ) → ReactionSettles false (escape x (wait Nothing c) st)
unfolding escape
escape_settles Opens c st = refl
escape_settles Refuses c st = tt
escape_settles UsesG2 c st = refl
escape_settles UsesG3 c st = refl
escape_settles Closes c st = refl
escape_settles NoMeaning c st = refl

designation_settles : (x : Option Set) (e : Element) (c : Coding) (st : List ℕ) → ReactionSettles false (designation x e (wait Nothing c) st)
unfolding designation
designation_settles None e c st = refl
designation_settles (Some x) e c st = refl

name_settles : (x : Freeing) (b : ℕ) (c : Coding) → ReactionSettles false (named x b c)
unfolding named
name_settles (NotFreed r) b c = tt
name_settles (Freed st) b c = refl

keep_settles : (w : Definition → Waiting) (x : Storing) (c : Coding) → ReactionSettles false (keep w x c)
unfolding keep
keep_settles w (NotStored r) c = tt
keep_settles w (Stored f) c = refl

body_settles : (t : Bool) (d : Definition) (c : Coding) (st : List ℕ) (b : ℕ) → ReactionSettles false (in_body t d c st b)
unfolding in_body
body_settles true d c st b = refl
body_settles false d c st b = keep_settles Body (store_byte (filling d c st) b) c

body_escape_settles : (x : Inner) (d : Definition) (c : Coding) (st : List ℕ) (b : ℕ) → ReactionSettles false (in_body_escape x d c st b)
unfolding in_body_escape
body_escape_settles OpensNext d c st b = refl
body_escape_settles Bars d c st b = tt
body_escape_settles EndsBody d c st b = refl
body_escape_settles StartsAfresh d c st b = keep_settles BodyEscape (store_byte (filling d c st) esc) c
body_escape_settles StoresBoth d c st b = keep_settles Body (store_escape_and (filling d c st) b) c

row_settles : (x : Positioning) (c : Coding) (st : List ℕ) (b : ℕ) → ReactionSettles (nsr_due (Row x)) (React (wait (Column x b) c) st Idle)
row_settles Aps c st b = refl
row_settles Nsr c st b = refl

column_settles : (x : Positioning) (r : ℕ) (c : Coding) (st : List ℕ) (b : ℕ) → ReactionSettles (nsr_due (Column x r)) (React (wait Nothing c) st (Position x r b))
column_settles Aps r c st b = refl
column_settles Nsr r c st b = refl

react_to_settles : (w : Waiting) (k : Class) (c : Coding) (st : List ℕ) (b : ℕ) → ReactionSettles (nsr_due w) (react_to w k c st b)
unfolding react_to open_body address_byte
react_to_settles Nothing (Below k) c st b = control_settles k c st b
react_to_settles Nothing Column2 c st b = graphic_settles (set_of c.sets.used c.sets) c st b
react_to_settles Nothing Above c st b = graphic_settles (set_of c.sets.used c.sets) c st b
react_to_settles (Shifted s) (Below k) c st b = control_settles k c st b
react_to_settles (Shifted s) Column2 c st b = graphic_settles (set_of (shifted_to s) c.sets) c st b
react_to_settles (Shifted s) Above c st b = graphic_settles (set_of (shifted_to s) c.sets) c st b
react_to_settles Escape (Below k) c st b = control_settles k c st b
react_to_settles Escape Column2 c st b = refl
react_to_settles Escape Above c st b = escape_settles (final_of b) c st
react_to_settles (Designator e) (Below k) c st b = control_settles k c st b
react_to_settles (Designator e) Column2 c st b = refl
react_to_settles (Designator e) Above c st b = designation_settles (designated_by b) e c st
react_to_settles Longer (Below k) c st b = control_settles k c st b
react_to_settles Longer Column2 c st b = refl
react_to_settles Longer Above c st b = refl
react_to_settles Name (Below k) c st b = tt
react_to_settles Name Column2 c st b = name_settles (free_body (first_of c.firsts b) st) b c
react_to_settles Name Above c st b = name_settles (free_body (first_of c.firsts b) st) b c
react_to_settles (Body d) k c st b = body_settles (eqb b esc) d c st b
react_to_settles (BodyEscape d) k c st b = body_escape_settles (inner_of b) d c st b
react_to_settles (Row x) k c st b = pick_all (ReactionSettles (nsr_due (Row x))) (ltb b 64) tt (row_settles x c st b)
react_to_settles (Column x r) k c st b = pick_all (ReactionSettles (nsr_due (Column x r))) (ltb b 64) tt (column_settles x r c st b)

react_settles : (c : Coding) (st : List ℕ) (b : ℕ) → ReactionSettles (nsr_due c.waiting) (react c st b)
unfolding react
react_settles c st b = pick_all (ReactionSettles (nsr_due c.waiting)) (ltb 127 b) tt (react_to_settles c.waiting (class_of b) c st b)

-- Steps

-- What a state keeps: multiples of 256, and the cursor held but while TEXT is open or NSR waits
abbrev Kept : Coding → Drawing → Type 0
Kept c d = DrawingOnGrid d × SettledAs (nsr_due c.waiting) d

abbrev StateKept : State → Type 0
StateKept w = Kept w.session.coding w.session.drawing

-- Bodies have no part in it
remove_kept : (w : State) → StateKept w → StateKept (remove_spent w)
unfolding remove_spent
remove_kept w g = g

abbrev SoughtKept : Sought → Type 0
SoughtKept NothingLeft = Unit {0}
SoughtKept Spoilt = Unit {0}
SoughtKept (Found b v s r) = StateKept v

body_kept : (x : Option (ℕ × Cursor)) (i : ℕ) (w : State) (bs : List ℕ) → StateKept w → SoughtKept (from_body x i w bs)
unfolding from_body
body_kept None i w bs g = tt
body_kept (Some (b, x)) i w bs g = g

at_kept : (n : ℕ) (w : State) (bs : List ℕ) → StateKept w → SoughtKept (seek_at n w bs)
unfolding seek_at
at_kept (suc i) w bs g = body_kept (read_body w.store (body_at w.session.bodies i)) i w bs g
at_kept zero w [] g = tt
at_kept zero w (b ∷ bs) g = g

seek_kept : (w : State) (bs : List ℕ) → StateKept w → SoughtKept (seek w bs)
unfolding seek
seek_kept w bs g = at_kept w.session.bodies.depth w bs g

abbrev MoveKept : Move → Type 0
MoveKept (Stops r) = Unit {0}
MoveKept (Goes u rs) = StateKept u × AllOnGrid rs

change_kept : (w : State) (b : ℕ) (m : Move) → StateKept w → Change w b m → MoveKept m
change_kept w b m g (refused r) = tt
change_kept w b m g (called c n p h) =
    let t = nsr_due w.session.coding.waiting in
    let q : t ≡ false = subst (ReactionSettles t) p (react_settles w.session.coding w.store b) in
    ((g.0, by t (nsr_due c.waiting) q g.1), tt)
  where
    by : (t s : Bool) → t ≡ false → SettledAs t w.session.drawing → SettledAs s w.session.drawing
    by true s e h = true_false e
    by false true e h = tt
    by false false e h = h
change_kept w b m g (reacted c st a d rs p q) =
    let t = nsr_due w.session.coding.waiting in
    let s : settles t a (nsr_due c.waiting) ≡ true = subst (ReactionSettles t) p (react_settles w.session.coding w.store b) in
    let o : DrawingOnGrid d × AllOnGrid rs = subst OutcomeOnGrid q (act_grid a w.session.drawing g.0) in
    ((o.0, subst (Drawn (SettledAs (nsr_due c.waiting))) q (act_settles t (nsr_due c.waiting) a w.session.drawing s g.1)), o.1)

step_kept : (w : State) (s : Source) (b : ℕ) {u : State} {rs : List Record} → StateKept w → interpret w s b ≡ Goes u rs → StateKept u × AllOnGrid rs
step_kept w s b g q = subst MoveKept q (change_kept w b (interpret w s b) g (interpret_change w s b))

-- Readings

none_written : WrittenOnGrid []
unfolding bytes_of_all
none_written = record { records = []; laid = refl; all = tt }

written : (rs : List Record) → AllOnGrid rs → WrittenOnGrid (bytes_of_all rs)
written rs h = record { records = rs; laid = refl; all = h }

written_append : (x y : List ℕ) → WrittenOnGrid x → WrittenOnGrid y → WrittenOnGrid (x ++ y)
written_append x y h k =
    record {
      records = h.records ++ k.records;
      laid = ap₂ (λ (a b : List ℕ). a ++ b) h.laid k.laid ∙ sym (records_append h.records k.records);
      all = all_append h.records k.records h.all k.all;
    }

abbrev ReadingKept : Reading → Type 0
ReadingKept x = StateKept x.state × WrittenOnGrid x.records

reads_kept : {l : Limit} {n : ℕ} {w : State} {bs : List ℕ} {x : Reading} → StateKept w → Reads l n w bs x → ReadingKept x
reads_kept {w = w} g (done q) = (remove_kept w g, none_written)
reads_kept {w = w} g (full f q p h) = (remove_kept w g, none_written)
reads_kept {w = w} g (halt f h) = (remove_kept w g, none_written)
reads_kept {bs = bs} g (step {w = w} {b = b} {v = v} {s = s} {rs = rs} {x = x} f q m t) =
    let k = step_kept v s b (subst SoughtKept q (seek_kept (remove_spent w) bs (remove_kept w g))) m in
    let i = reads_kept k.0 t in
    (i.0, written_append (bytes_of_all rs) x.records (written rs k.1) i.1)

read_kept : (l : Limit) (w : State) (bs : List ℕ) → StateKept w → ReadingKept (read_to l w bs)
unfolding read_to on_verdict
read_kept l w bs g = by (tests w)
  where
    by : (v : Result (Unit {0}) Refusal) → ReadingKept (on_verdict v w (reading l (steps_left w) w bs))
    by (Err r) = (g, none_written)
    by (Ok u) = reads_kept g (reads l (steps_left w) w bs)

-- End

ended_kept : (w : State) (o : Outcome) → StateKept w → OutcomeOnGrid o → Drawn (SettledAs (nsr_due w.session.coding.waiting)) o → ReadingKept (ended o w)
unfolding ended
ended_kept w (NotDrawn r) g p q = (g, none_written)
ended_kept w (Draw d rs) g p q = ((p.0, q), written rs p.1)

close_settles : (t : Bool) (d : Drawing) → SettledAs t d → Drawn (SettledAs t) (act Close d)
close_settles true d h = act_settles true true Close d refl h
close_settles false d h = act_settles false false Close d refl h

end_kept : (room : ℕ) (w : State) → StateKept w → ReadingKept (ending room w)
unfolding ending end_checks
end_kept room w g = by (tests w) (bytes_left w.store w.session.bodies) (unfinished w.session.coding.waiting) _
  where
    by : (v : Result (Unit {0}) Refusal) (left inside short : Bool) → ReadingKept (end_checks v left inside short w)
    by (Err r) left inside short = (g, none_written)
    by (Ok u) true inside short = (g, none_written)
    by (Ok u) false true short = (g, none_written)
    by (Ok u) false false true = (g, none_written)
    by (Ok u) false false false =
        ended_kept w (act Close w.session.drawing) g (act_grid Close w.session.drawing g.0) (close_settles (nsr_due w.session.coding.waiting) w.session.drawing g.1)

-- After an end that answers 0, neither NSR waits nor is TEXT open

finished_due : (x : Waiting) → unfinished x ≡ false → nsr_due x ≡ false
unfolding unfinished
finished_due Nothing e = refl
finished_due (Shifted s) e = refl
finished_due Escape e = refl
finished_due (Designator z) e = refl
finished_due Longer e = refl
finished_due Name e = refl
finished_due (Body d) e = refl
finished_due (BodyEscape d) e = refl
finished_due (Row Aps) e = refl
finished_due (Row Nsr) e = true_false e
finished_due (Column Aps r) e = refl
finished_due (Column Nsr r) e = true_false e

ended_set : (w : State) (o : Outcome) → nsr_due w.session.coding.waiting ≡ false → Drawn (λ e. text_open e ≡ false) o → (ended o w).answer ≡ Done → cursor_unset (ended o w).state ≡ false
unfolding ended
ended_set w (NotDrawn r) n p a = refused_done a
ended_set w (Draw d rs) n p a = rw (n, p)

end_set : (room : ℕ) (w : State) → (ending room w).answer ≡ Done → cursor_unset (ending room w).state ≡ false
unfolding ending end_checks act
end_set room w = by (tests w) (bytes_left w.store w.session.bodies) (unfinished w.session.coding.waiting) refl _
  where
    by : (v : Result (Unit {0}) Refusal) (left inside : Bool) → unfinished w.session.coding.waiting ≡ inside → (short : Bool)
        → (end_checks v left inside short w).answer ≡ Done → cursor_unset (end_checks v left inside short w).state ≡ false
    by (Err r) left inside e short a = refused_done a
    by (Ok u) true inside e short a = refused_done a
    by (Ok u) false true e short a = refused_done a
    by (Ok u) false false e true a = full_done a
    by (Ok u) false false e false a =
        ended_set w (act Close w.session.drawing) (finished_due w.session.coding.waiting e) (close_closes w.session.drawing) a

-- A list of feeds

returned_kept : (w : State) (piece out : List ℕ) → StateKept w → ReadingKept (returned (feed w piece out))
unfolding feed
returned_kept w piece out g =
    subst ReadingKept (sym (returned_handed (read_to (Room (length out)) w piece) out)) (read_kept (Room (length out)) w piece g)

feeds_kept : (w : State) (bs : List ℕ) (c : Lent) (cs : List Lent) → StateKept w → ReadingKept (feeds w bs c cs)
unfolding feeds
feeds_kept w bs c [] g = returned_kept w (bs ++ c.further) c.buffer g
feeds_kept w bs c (e ∷ es) g =
    let f = feed w (bs ++ c.further) c.buffer in
    let h = returned_kept w (bs ++ c.further) c.buffer g in
    let k = feeds_kept f.state (unread (bs ++ c.further) f.consumed) e es h.0 in
    (k.0, written_append (returned f).records (feeds f.state (unread (bs ++ c.further) f.consumed) e es).records h.1 k.1)

end_returned_kept : (w : State) (out : List ℕ) → StateKept w → ReadingKept (returned (end w out))
unfolding end
end_returned_kept w out g = subst ReadingKept (sym (returned_handed (ending (length out) w) out)) (end_kept (length out) w g)

-- Bytes: of the record at 40 k, whose kind is not 8, the low byte of each coordinate is zero

get_past : (xs ys : List ℕ) (n i : ℕ) → length xs ≡ n → get_or (xs ++ ys) (n + i) 0 ≡ get_or ys i 0
get_past xs ys n i e = ap (λ (k : ℕ). get_or (xs ++ ys) (k + i) 0) (sym e) ∙ past xs
  where
    past : (zs : List ℕ) → get_or (zs ++ ys) (length zs + i) 0 ≡ get_or ys i 0
    past [] = ap (λ (k : ℕ). get_or ys k 0) (zero-add i)
    past (z ∷ zs) = ap (λ (k : ℕ). get_or ((z ∷ zs) ++ ys) k 0) (suc-add (length zs) i) ∙ past zs

first_low : (r : Record) (bs : List ℕ) (j : ℕ) → j < 8 → RecordOnGrid r → (get_or (bytes_of r ++ bs) 0 0 ≡ 8 → ⊥) → get_or (bytes_of r ++ bs) (8 + 4 * j) 0 ≡ 0
unfolding bytes_of words word
first_low r bs zero h g n = (g.points n).0.0
first_low r bs (suc zero) h g n = (g.points n).0.1
first_low r bs (suc (suc zero)) h g n = (g.points n).1.0
first_low r bs (suc (suc (suc zero))) h g n = (g.points n).1.1
first_low r bs (suc (suc (suc (suc zero)))) h g n = (g.points n).2.0
first_low r bs (suc (suc (suc (suc (suc zero))))) h g n = (g.points n).2.1
first_low r bs (suc (suc (suc (suc (suc (suc zero)))))) h g n = g.pel.0
first_low r bs (suc (suc (suc (suc (suc (suc (suc zero))))))) h g n = g.pel.1
first_low r bs (suc (suc (suc (suc (suc (suc (suc (suc j)))))))) h g n = absurd (omega arith)

records_low : (rs : List Record) (k j : ℕ) → j < 8 → AllOnGrid rs → (get_or (bytes_of_all rs) (40 * k) 0 ≡ 8 → ⊥) → get_or (bytes_of_all rs) (40 * k + (8 + 4 * j)) 0 ≡ 0
unfolding bytes_of_all
records_low [] k j h g n = refl
records_low (r ∷ rs) zero j h g n =
    let s : 40 * 0 + (8 + 4 * j) ≡ 8 + 4 * j = omega arith in
    ap (λ (i : ℕ). get_or (bytes_of r ++ bytes_of_all rs) i 0) s ∙ first_low r (bytes_of_all rs) j h g.0 n
records_low (r ∷ rs) (suc k) j h g n =
    let s : 40 * suc k ≡ 40 + 40 * k = omega arith in
    let t : 40 * suc k + (8 + 4 * j) ≡ 40 + (40 * k + (8 + 4 * j)) = omega arith in
    ap at t ∙ past (40 * k + (8 + 4 * j)) ∙ records_low rs k j h g.1 (λ e. n (ap at s ∙ past (40 * k) ∙ e))
  where
    at : ℕ → ℕ
    at i = get_or (bytes_of r ++ bytes_of_all rs) i 0

    past : (i : ℕ) → at (40 + i) ≡ get_or (bytes_of_all rs) i 0
    past i = get_past (bytes_of r) (bytes_of_all rs) 40 i (record_length r)

pub low_bytes : (bytes : List ℕ) → WrittenOnGrid bytes → (k j : ℕ) → j < 8 → (get_or bytes (40 * k) 0 ≡ 8 → ⊥) → get_or bytes (40 * k + (8 + 4 * j)) 0 ≡ 0
low_bytes bytes g k j h n =
    let e = g.laid in
    ap (λ (bs : List ℕ). get_or bs (40 * k + (8 + 4 * j)) 0) e
    ∙ records_low g.records k j h g.all (λ i. n (ap (λ (bs : List ℕ). get_or bs (40 * k) 0) e ∙ i))

-- The theorems

fresh_kept : (terms : Terms) → StateKept (fresh_state terms)
unfolding fresh_state
fresh_kept terms = (fresh_grid, fresh_settled)

page_kept : (terms : Terms) (page : List ℕ) → ReadingKept (read_page terms page)
unfolding read_page undivided
page_kept terms page = read_kept Always (fresh_state terms) page (fresh_kept terms)

end_page_kept : (terms : Terms) (page : List ℕ) → ReadingKept (end_page terms page)
unfolding end_page
end_page_kept terms page = end_kept room_for_step (read_page terms page).state (page_kept terms page).0

calls_kept : (terms : Terms) (c : Lent) (cs : List Lent) → ReadingKept (feeds (fresh_state terms) [] c cs)
calls_kept terms c cs = feeds_kept (fresh_state terms) [] c cs (fresh_kept terms)

-- Every coordinate of every record, but the colour of kind 8, is a multiple of 256
pub draws_on_grid : (terms : Terms) → DrawsOnGrid terms
unfolding all_records
draws_on_grid terms =
    record {
      pages = λ page. written_append (read_page terms page).records (end_page terms page).records (page_kept terms page).1 (end_page_kept terms page).1;
      calls = λ c cs out.
          let k = calls_kept terms c cs in
          let w = (feeds (fresh_state terms) [] c cs).state in
          written_append (feeds (fresh_state terms) [] c cs).records (returned (end w out)).records k.1 (end_returned_kept w out k.0).1;
    }

cursor_held : (w : State) → StateKept w → CursorHeldIn w
cursor_held w g =
    let t = w.session.drawing.pen.text in
    let p = g.0.0 in
    record {
      multiple = p.at_cursor.grid;
      on_screen = p.at_cursor.below;
      fitting = λ n. stays_fits t (subst (λ (u : Bool). HeldUnless u t) n g.1) p.at_field;
    }

-- The cursor is a multiple of 256, on the screen, and held with its field fitting
pub holds_cursor : (terms : Terms) → HoldsCursor terms
unfolding end_page
holds_cursor terms =
    record {
      steps = λ l page. cursor_held (read_to l (fresh_state terms) page).state (read_kept l (fresh_state terms) page (fresh_kept terms)).0;
      ended = λ page. cursor_held (end_page terms page).state (end_page_kept terms page).0;
      accepted = λ page a.
          (cursor_held (end_page terms page).state (end_page_kept terms page).0).fitting (end_set room_for_step (read_page terms page).state a.ended);
      fed = λ c cs. cursor_held (feeds (fresh_state terms) [] c cs).state (calls_kept terms c cs).0;
      closed = λ c cs out.
          let w = (feeds (fresh_state terms) [] c cs).state in
          cursor_held (end w out).state (end_returned_kept w out (calls_kept terms c cs).0).0;
    }

-- Closing carried out, and what end hands over
use Rattle.std.specs.Prelude.{◌≤◌, ◌<◌, ◌≡◌, ◌&&◌}
use Rattle.std.proofs.Math.Bool.{and-false}
use Rattle.std.proofs.Common.{ℕ, zero-add, sym, ap, ◌∙◌, true, false, List, length, ltb, ne_eqb, lt-ltb, le-ltb}
use Rattle.rules.specs.declared.Action.TheVariants.{Close}
use Rattle.rules.specs.declared.Refusal.{Refusal}
use Rattle.rules.specs.declared.Refusal.TheVariants.{TooManyVertices, EndInside, BodyBytesLeft}
use Rattle.rules.specs.declared.Session.{Session}
use Rattle.rules.specs.declared.Status.TheVariants.{Ended, Stopped}
use Rattle.rules.specs.declared.Answer.TheVariants.{Done, Full, Refused}
use Rattle.rules.specs.Numbers.{room_for_step}
use Rattle.rules.specs.Record.{bytes_of_all}
use Rattle.rules.specs.Bodies.{bytes_left}
use Rattle.rules.specs.Coding.{unfinished}
use Rattle.rules.specs.Drawing.{Outcome, NotDrawn, Draw, act, is_open, closed}
use Rattle.rules.specs.Step.{state_lent}
use Rattle.rules.specs.Reading.{Reading, rests, halts, Valid}
use Rattle.rules.specs.Calls.{handed, ended, end_checks, ending}
use Rattle.rules.proofs.Bools.{true_false, false_true}
use Rattle.rules.proofs.RecordCount.{closed_close}
use Rattle.rules.proofs.Steps.{valid_tests}
use Rattle.records.proofs.Writes.{overwrite_start}
use Rattle.rules.specs.declared.Drawing.{Drawing}
use Rattle.figures.specs.Carried.{Carried, carry}
use Rattle.drawing.proofs.Refusals.{OnlyVertices}
use Rattle.rules.specs.declared.Ended.{Ended as End}
use Rattle.rules.specs.Promises.{ending_of}
use Rattle.ending.specs.Ending.{session_with}

-- Closing carried out left the drawing state e and the output: refused, the session is stopped with 9; else it is ended
pub stopped_so : (o : Outcome) (s : Session) (e : Drawing) (st out left : List ℕ) (r : End) → OnlyVertices o
    → record { refused = true; drawing = e; at = 0; output = left } ≡ carry o s.drawing 0 out
    → r ≡ record { answer = Refused TooManyVertices; written = 0; session = session_with (Stopped TooManyVertices) e s }
    → ending_of r st left ≡ handed (ended o (state_lent s st)) out
unfolding carry ended
stopped_so (NotDrawn q) s e st out left r v f h =
    ap (λ (z : End). ending_of z st left) h
    ∙ ap (λ (z : Carried). ending_of (record { answer = Refused TooManyVertices; written = 0; session = session_with (Stopped TooManyVertices) z.drawing s }) st z.output) f
    ∙ ap (λ (z : Refusal). handed (halts z (state_lent s st)) out) (sym v)
stopped_so (Draw d rs) s e st out left r v f h = true_false (ap (λ (z : Carried). z.refused) f)

pub ended_so : (o : Outcome) (s : Session) (e : Drawing) (n : ℕ) (st out left : List ℕ)
    → record { refused = false; drawing = e; at = n; output = left } ≡ carry o s.drawing 0 out
    → ending_of (record { answer = Done; written = n; session = session_with Ended e s }) st left ≡ handed (ended o (state_lent s st)) out
unfolding carry ended
ended_so (NotDrawn q) s e n st out left f = false_true (ap (λ (y : Carried). y.refused) f)
ended_so (Draw d rs) s e n st out left f =
    ap (λ (y : Carried). ending_of (record { answer = Done; written = y.at; session = session_with Ended y.drawing s }) st y.output) f
    ∙ (λ i. record {
      answer = Done;
      state = state_lent (session_with Ended d s) st;
      consumed = 0;
      written = zero-add (length (bytes_of_all rs)) i;
      output = overwrite_start (bytes_of_all rs) out i;
    })

-- What end answers, by the test that decides. The tests before it did not

left_so : (s : Session) (st : List ℕ) (room : ℕ) → Valid (state_lent s st) → bytes_left st s.bodies ≡ true
    → ending room (state_lent s st) ≡ rests (Refused BodyBytesLeft) (state_lent s st)
unfolding ending end_checks
left_so s st room v b = rw (valid_tests (state_lent s st) v, b)

inside_so : (s : Session) (st : List ℕ) (room : ℕ) → Valid (state_lent s st) → bytes_left st s.bodies ≡ false
    → unfinished s.coding.waiting ≡ true → ending room (state_lent s st) ≡ halts EndInside (state_lent s st)
unfolding ending end_checks
inside_so s st room v b u = rw (valid_tests (state_lent s st) v, b, u)

full_so : (s : Session) (st : List ℕ) (room : ℕ) → Valid (state_lent s st) → bytes_left st s.bodies ≡ false
    → unfinished s.coding.waiting ≡ false → is_open s.drawing ≡ true → ltb room room_for_step ≡ true
    → ending room (state_lent s st) ≡ rests Full (state_lent s st)
unfolding ending end_checks
full_so s st room v b u o f = rw (valid_tests (state_lent s st) v, b, u, o, f)

closes_so : (s : Session) (st : List ℕ) (room : ℕ) → Valid (state_lent s st) → bytes_left st s.bodies ≡ false
    → unfinished s.coding.waiting ≡ false → (is_open s.drawing && ltb room room_for_step) ≡ false
    → ending room (state_lent s st) ≡ ended (act Close s.drawing) (state_lent s st)
unfolding ending end_checks
closes_so s st room v b u f = rw (valid_tests (state_lent s st) v, b, u, f)

-- The same of the answers that the code makes

pub left_answer : (s : Session) (st out : List ℕ) (r : End) → Valid (state_lent s st) → bytes_left st s.bodies ≡ true
    → r ≡ record { answer = Refused BodyBytesLeft; written = 0; session = s }
    → ending_of r st out ≡ handed (ending (length out) (state_lent s st)) out
left_answer s st out r v b h =
    ap (λ (z : End). ending_of z st out) h ∙ ap (λ (x : Reading). handed x out) (sym (left_so s st (length out) v b))

pub inside_answer : (s : Session) (st out : List ℕ) (r : End) → Valid (state_lent s st) → bytes_left st s.bodies ≡ false
    → unfinished s.coding.waiting ≡ true
    → r ≡ record { answer = Refused EndInside; written = 0; session = session_with (Stopped EndInside) s.drawing s }
    → ending_of r st out ≡ handed (ending (length out) (state_lent s st)) out
inside_answer s st out r v b u h =
    ap (λ (z : End). ending_of z st out) h ∙ ap (λ (x : Reading). handed x out) (sym (inside_so s st (length out) v b u))

pub none_answer : (s : Session) (st out : List ℕ) (r : End) → Valid (state_lent s st) → bytes_left st s.bodies ≡ false
    → unfinished s.coding.waiting ≡ false → s.drawing.command.opcode ≡ 0
    → r ≡ record { answer = Done; written = 0; session = session_with Ended (closed s.drawing) s }
    → ending_of r st out ≡ handed (ending (length out) (state_lent s st)) out
unfolding is_open ended bytes_of_all
none_answer s st out r v b u o h =
    let n : is_open s.drawing ≡ false = rw o in
    ap (λ (z : End). ending_of z st out) h
    ∙ ap (λ (x : Outcome). handed (ended x (state_lent s st)) out) (sym (closed_close s.drawing n))
    ∙ ap (λ (x : Reading). handed x out) (sym (closes_so s st (length out) v b u (rw n)))

pub full_answer : (s : Session) (st out : List ℕ) (r : End) → Valid (state_lent s st) → bytes_left st s.bodies ≡ false
    → unfinished s.coding.waiting ≡ false → (s.drawing.command.opcode ≡ 0 → ⊥) → length out < room_for_step
    → r ≡ record { answer = Full; written = 0; session = s }
    → ending_of r st out ≡ handed (ending (length out) (state_lent s st)) out
unfolding is_open
full_answer s st out r v b u o f h =
    ap (λ (z : End). ending_of z st out) h
    ∙ ap (λ (x : Reading). handed x out)
    (sym (full_so s st (length out) v b u (rw (ne_eqb s.drawing.command.opcode 0 o)) (lt-ltb (length out) room_for_step f)))

pub close_answer : (s : Session) (st out left : List ℕ) (r : End) → Valid (state_lent s st) → bytes_left st s.bodies ≡ false
    → unfinished s.coding.waiting ≡ false → room_for_step ≤ length out
    → ending_of r st left ≡ handed (ended (act Close s.drawing) (state_lent s st)) out
    → ending_of r st left ≡ handed (ending (length out) (state_lent s st)) out
close_answer s st out left r v b u f h =
    h ∙ ap (λ (x : Reading). handed x out) (sym (closes_so s st (length out) v b u (rw (le-ltb (length out) room_for_step f) (and-false (is_open s.drawing)))))

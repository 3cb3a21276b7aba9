use Rattle.std.specs.Prelude.{◌+◌, ◌-◌}
use Rattle.command_runs.proofs.Prelude.{arith, refl, sym, ap, ◌∙◌}
use Rattle.rules.specs.declared.Command.{Command}
use Rattle.rules.specs.Drawing.{row_of}
use Rattle.figures.specs.Tracing.{Inks, pen_at}
use Rattle.command_runs.proofs.CommandLaws.{stands_none, stands_moved, stands_on, stands_opened, reaches_opened, reaches_dropped, reaches_all, row_next}
use Rattle.drawing_runs.specs.Run.{none}
use Rattle.drawing_runs.proofs.RunLaws.{rest_all, rest_length}
use Rattle.rules.proofs.DrawingRanges.{multi_range}
use Rattle.command_runs.proofs.PointLaws.{reaches_point}
use Rattle.command_runs.proofs.run_commands.Goals as goal

pub loop-place-init : goal.loop-place-init
loop-place-init c =
    record {
      own = c.row_of-row.ensures;
      due = c.role_due-role.ensures;
      within = omega arith;
      long = refl;
      room = c.requires.2;
      stands = λ o t. stands_none (pen_at c.args.point t o) 0;
      runs = λ o z eight t l m k h e. none;
    }

pub overflow_sub-out : goal.overflow_sub-out
overflow_sub-out c =
    c.loop-place.invariant.room

pub shape_of-out-then-out-at-lt-ROOM_FOR_STEP : goal.shape_of-out-then-out-at-lt-ROOM_FOR_STEP
shape_of-out-then-out-at-lt-ROOM_FOR_STEP c =
    c.loop-place.invariant.long

pub returns-then-out-at-lt-ROOM_FOR_STEP : goal.returns-then-out-at-lt-ROOM_FOR_STEP
returns-then-out-at-lt-ROOM_FOR_STEP c = let k : Inks _ _ c.args.look = record { head = c.head_of-ink.ensures; size = refl } in
    let both = reaches_all _ _ _ _ _ _ _ _ _ c.args.look _ _ _ c.loop-place.invariant.within c.after.ensures (λ o z eight t m. c.loop-place.invariant.runs o z eight t c.args.look m k refl refl) in record { ran = both.0; most = both.1 }

pub shape_of-out-then-not-opens : goal.shape_of-out-then-not-opens
shape_of-out-then-not-opens c =
    c.loop-place.invariant.long

pub returns-then-not-opens : goal.returns-then-not-opens
returns-then-not-opens c = let k : Inks _ _ c.args.look = record { head = c.head_of-ink.ensures; size = refl } in
    let both = reaches_all _ _ _ _ _ _ _ _ _ c.args.look _ _ _ c.loop-place.invariant.within c.after-then-not-opens.ensures (λ o z eight t m. c.loop-place.invariant.runs o z eight t c.args.look m k refl refl) in record { ran = both.0; most = both.1 }

pub bounds-rows-row_place : goal.bounds-rows-row_place
bounds-rows-row_place c =
    omega (arith, c.row_place.ensures, c.if-byte-lt64.true)

pub open_next-opened-requires : goal.open_next-opened-requires
open_next-opened-requires c =
    let w = c.opens.ensures c.if-not-opens.false in
    (c.loop-place.invariant.own, rw (← c.loop-place.invariant.due) w.0, omega (arith, c.if-out-at-lt-ROOM_FOR_STEP.false, c.loop-place.invariant.room), row_next c.rows-rows.ensures c.row_place.result _ _ c.row_place.ensures c.if-byte-lt64.true)

pub shape_of-out-then-leaves_strokes : goal.shape_of-out-then-leaves_strokes
shape_of-out-then-leaves_strokes c =
    c.open_next-opened.auto.out ∙ c.loop-place.invariant.long

pub returns-then-leaves_strokes : goal.returns-then-leaves_strokes
returns-then-leaves_strokes c = let k : Inks _ _ c.args.look = record { head = c.head_of-ink.ensures; size = refl } in
    let w = c.opens.ensures c.if-not-opens.false in
    let both = reaches_all _ _ _ _ _ _ _ _ _ c.args.look _ _ _ (omega (arith, c.loop-place-test.true)) c.after-then-leaves_strokes.ensures (λ o z eight t m. reaches_opened _ _ _ (pen_at c.args.point t o) _ _ _ _ _ _ c.args.look m _ _ _ _ _ _ (omega arith) z c.open_next-opened.ensures.1 (c.loop-place.invariant.stands o t) (omega (arith, c.if-out-at-lt-ROOM_FOR_STEP.false, c.loop-place.invariant.room)) w.1 (λ u a y. c.open_next-opened.ensures.0 c.args.look u a m k y) _ c.either-moved.ensures (c.loop-place.invariant.runs o z eight t c.args.look m k refl refl)) in record { ran = both.0; most = both.1 }

pub loop-place-smaller-then-byte-lt64 : goal.loop-place-smaller-then-byte-lt64
loop-place-smaller-then-byte-lt64 c =
    omega (arith, c.loop-place-test.true)

pub loop-place-preserved-then-byte-lt64 : goal.loop-place-preserved-then-byte-lt64
loop-place-preserved-then-byte-lt64 c =
    let w = c.opens.ensures c.if-not-opens.false in
    record {
      own = c.open_next-opened.ensures.2;
      due = c.role_due-role-then-byte-lt64.ensures;
      within = omega (arith, c.loop-place-test.true);
      long = c.open_next-opened.auto.out ∙ c.loop-place.invariant.long;
      room = omega (arith, c.if-out-at-lt-ROOM_FOR_STEP.false, c.loop-place.invariant.room, c.open_next-opened.ensures.3, c.open_next-opened.auto.out);
      stands = λ o t. stands_opened (pen_at c.args.point t o) (c.loop-place.place - 0) (c.loop-place.place + 1 - 0) c.loop-place.moved c.open_next-opened.result.moved c.loop-place.point c.open_next-opened.result.point _ (omega arith) c.open_next-opened.ensures.1 (c.loop-place.invariant.stands o t) c.either-moved.ensures;
      runs = λ o z eight t l m k h e. reaches_opened _ _ _ (pen_at c.args.point t o) _ _ _ _ _ _ l m _ _ _ _ _ _ (omega arith) z c.open_next-opened.ensures.1 (c.loop-place.invariant.stands o t) (omega (arith, c.if-out-at-lt-ROOM_FOR_STEP.false, c.loop-place.invariant.room)) w.1 (λ u a y. c.open_next-opened.ensures.0 l u a m k y) _ c.either-moved.ensures (c.loop-place.invariant.runs o z eight t l m k h e);
    }

pub shape_of-out-then-not-drops : goal.shape_of-out-then-not-drops
shape_of-out-then-not-drops c =
    c.loop-place.invariant.long

pub returns-then-not-drops : goal.returns-then-not-drops
returns-then-not-drops c = let k : Inks _ _ c.args.look = record { head = c.head_of-ink.ensures; size = refl } in
    let both = reaches_all _ _ _ _ _ _ _ _ _ c.args.look _ _ _ c.loop-place.invariant.within c.after-then-not-drops.ensures (λ o z eight t m. c.loop-place.invariant.runs o z eight t c.args.look m k refl refl) in record { ran = both.0; most = both.1 }

pub loop-place-smaller-in-None : goal.loop-place-smaller-in-None
loop-place-smaller-in-None c =
    omega (arith, c.loop-place-test.true)

pub loop-place-preserved-in-None : goal.loop-place-preserved-in-None
loop-place-preserved-in-None c =
    let w = c.drops.ensures c.if-not-drops.false in
    record {
      own = c.loop-place.invariant.own;
      due = c.loop-place.invariant.due;
      within = omega (arith, c.loop-place-test.true);
      long = c.loop-place.invariant.long;
      room = c.loop-place.invariant.room;
      stands = λ o t. stands_on (pen_at c.args.point t o) (c.loop-place.place - 0) (c.loop-place.place + 1 - 0) c.loop-place.moved c.loop-place.point (omega arith) (c.loop-place.invariant.stands o t);
      runs = λ o z eight t l m k h e. reaches_dropped _ _ _ (pen_at c.args.point t o) _ _ _ _ l m _ _ _ (omega (arith, w.2)) (omega (arith, c.if-out-at-lt-ROOM_FOR_STEP.false, c.loop-place.invariant.room)) (omega (arith, c.if-byte-lt64.false)) w.1 c.loop-place.invariant.own (sym c.loop-place.invariant.due ∙ w.0) (c.loop-place.invariant.runs o z eight t l m k h e);
    }

pub point_due-whole-requires : goal.point_due-whole-requires
point_due-whole-requires c = (multi_range c.args.look.domain c.requires.0).1

pub trace-traced-requires : goal.trace-traced-requires
trace-traced-requires c =
    (c.point_due-whole.ensures _ c.in-Some.is).0

pub put_figure-at-requires : goal.put_figure-at-requires
put_figure-at-requires c =
    omega (arith, c.if-out-at-lt-ROOM_FOR_STEP.false, c.loop-place.invariant.room)

pub loop-place-smaller : goal.loop-place-smaller
loop-place-smaller c =
    let w = c.point_due-whole.ensures _ c.in-Some.is in
    omega (arith, w.1, (multi_range c.args.look.domain c.requires.0).0)

pub loop-place-preserved : goal.loop-place-preserved
loop-place-preserved c =
    let r = multi_range c.args.look.domain c.requires.0 in
    let w = c.point_due-whole.ensures _ c.in-Some.is in
    record {
      own = c.loop-place.invariant.own ∙ ap row_of (sym (ap (λ (x : Command). x.opcode) c.with_due-command.ensures ∙ c.trace-traced.ensures.opcode));
      due = c.role_due-role-in-Some.ensures;
      within = omega (arith, w.1, rest_length c.args.bytes.now c.loop-place.place);
      long = c.put_figure-at.auto.out ∙ c.loop-place.invariant.long;
      room = omega (arith, c.if-out-at-lt-ROOM_FOR_STEP.false, c.loop-place.invariant.room, c.put_figure-at.ensures.most, c.put_figure-at.auto.out);
      stands = λ o t. stands_moved (pen_at c.args.point t o) (c.loop-place.place + c.args.look.domain.multi - 0) c.trace-traced.result.point (omega (arith, r.0));
      runs = λ o z eight t l m k h e. reaches_point _ _ _ (pen_at c.args.point t o) _ _ _ _ l m _ _ _ _ _ _ _ _ _ _ _ _ _ (omega arith) z eight (c.loop-place.invariant.stands o t) c.loop-place.invariant.own c.loop-place.invariant.due w.0 (omega (arith, c.if-out-at-lt-ROOM_FOR_STEP.false, c.loop-place.invariant.room)) h r.0 r.1 (omega (arith, r.0, w.1, rest_length c.args.bytes.now c.loop-place.place)) e (rw (rest_all c.args.bytes.now c.loop-place.place) at w.2) (λ bs u a f. c.trace-traced.ensures.drawn l _ bs c.target-aimed.ensures.0 c.target-aimed.ensures.1 f u a m) (c.put_figure-at.ensures.put l k) c.with_due-command.ensures (c.loop-place.invariant.runs o z eight t l m k h e);
    }

pub shape_of-out : goal.shape_of-out
shape_of-out c =
    c.loop-place.invariant.long

pub returns : goal.returns
returns c = let k : Inks _ _ c.args.look = record { head = c.head_of-ink.ensures; size = refl } in
    let both = reaches_all _ _ _ _ _ _ _ _ _ c.args.look _ _ _ c.loop-place.invariant.within c.after-2.ensures (λ o z eight t m. c.loop-place.invariant.runs o z eight t c.args.look m k refl refl) in record { ran = both.0; most = both.1 }

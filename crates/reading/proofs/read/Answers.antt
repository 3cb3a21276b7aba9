use Rattle.reading.proofs.Prelude.{arith, refl}
use Rattle.pens.specs.Tips.{pen_of}
use Rattle.figures.specs.Carried.{drawing_of}
use Rattle.rules.proofs.Steps.{valid_store, valid_depth}
use Rattle.coded_turns.proofs.ProgressLaws.{walk_steps}
use Rattle.reading.proofs.ReadLaws.{loop_first, loop_on, loop_ends, loop_draws, loop_refused, hands_over, drawn_room, stands_any}
use Rattle.reading.proofs.WalkLaws.{walk_keeps}
use Rattle.reading.proofs.read.Goals.{in-Ends, in-Draws+in-Err}
use Rattle.reading.proofs.read.Goals as goal

pub loop-progress-init : goal.loop-progress-init
loop-progress-init c =
    loop_first c.args.session c.args.store.now c.args.piece.now c.args.out.now c.requires _ refl c.start-reached.result c.start-reached.ensures

pub run-reached-requires : goal.run-reached-requires
run-reached-requires c =
    stands_any c.args.session.budget c.loop-progress.reached c.loop-progress.text c.loop-progress.cursors c.loop-progress.firsts c.loop-progress.map c.loop-progress.store c.loop-progress.invariant.stands

pub loop-progress-smaller-then-taken-progress : goal.loop-progress-smaller-then-taken-progress
loop-progress-smaller-then-taken-progress c =
    omega (arith, c.if-taken-progress.true, c.run-reached.ensures.most)

pub loop-progress-preserved-then-taken-progress : goal.loop-progress-preserved-then-taken-progress
loop-progress-preserved-then-taken-progress c =
    walk_keeps _ _ _ (c.run-reached.ensures.walk c.loop-progress.map) c.loop-progress.invariant

pub overflow_sub-free : goal.overflow_sub-free
overflow_sub-free c =
    (walk_keeps _ _ _ (c.run-reached.ensures.walk c.loop-progress.map) c.loop-progress.invariant).stands.within

pub turn-turned-requires : goal.turn-turned-requires
turn-turned-requires c =
    let k = walk_keeps _ _ _ (c.run-reached.ensures.walk c.loop-progress.map) c.loop-progress.invariant in
    let v = k.stands.sound in
    (valid_store v, valid_depth v, v.waiting, k.stands.on, c.run-reached.ensures.spent c.if-taken-progress.false)

pub loop-progress-smaller-in-GoesOn : goal.loop-progress-smaller-in-GoesOn
loop-progress-smaller-in-GoesOn c =
    let on = loop_on _ _ _ _ _ _ _ (drawing_of (pen_of c.run-reached.new.text c.run-reached.result.tip) c.run-reached.result.command c.run-reached.result.look c.loop-progress.map) _ _ (walk_keeps _ _ _ (c.run-reached.ensures.walk c.loop-progress.map) c.loop-progress.invariant) c.turn-turned.result _ _ _ c.turn-turned.ensures.left c.in-GoesOn.is in
    omega (arith, on.1, on.2, walk_steps (c.run-reached.ensures.walk c.loop-progress.map) c.loop-progress.invariant.stands)

pub loop-progress-preserved-in-GoesOn : goal.loop-progress-preserved-in-GoesOn
loop-progress-preserved-in-GoesOn c =
    (loop_on _ _ _ _ _ _ _ (drawing_of (pen_of c.run-reached.new.text c.run-reached.result.tip) c.run-reached.result.command c.run-reached.result.look c.loop-progress.map) _ _ (walk_keeps _ _ _ (c.run-reached.ensures.walk c.loop-progress.map) c.loop-progress.invariant) c.turn-turned.result _ _ _ c.turn-turned.ensures.left c.in-GoesOn.is).0

pub draw-drawn-requires : goal.draw-drawn-requires
draw-drawn-requires c =
    let k = walk_keeps _ _ _ (c.run-reached.ensures.walk c.loop-progress.map) c.loop-progress.invariant in
    let v = k.stands.sound in
    let free = drawn_room c.turn-turned.result _ _ _ c.in-Draws.is c.turn-turned.ensures.room in
    (valid_depth v, v.drawing, omega (arith, free, k.stands.within))

pub loop-progress-smaller : goal.loop-progress-smaller
loop-progress-smaller c =
    let on = loop_draws _ _ _ _ _ _ _ (drawing_of (pen_of c.run-reached.new.text c.run-reached.result.tip) c.run-reached.result.command c.run-reached.result.look c.loop-progress.map) _ _ (walk_keeps _ _ _ (c.run-reached.ensures.walk c.loop-progress.map) c.loop-progress.invariant) c.turn-turned.result _ _ _ c.turn-turned.ensures.left
    _ _ c.in-Draws.is c.turn-turned.ensures.due _ c.in-Ok.ensures.drawn c.draw-drawn.new.cursors c.in-Ok.ensures.bodies refl _ c.in-Ok.ensures.steps in
    omega (arith, on.1, on.2, walk_steps (c.run-reached.ensures.walk c.loop-progress.map) c.loop-progress.invariant.stands)

pub loop-progress-preserved : goal.loop-progress-preserved
loop-progress-preserved c =
    (loop_draws _ _ _ _ _ _ _ (drawing_of (pen_of c.run-reached.new.text c.run-reached.result.tip) c.run-reached.result.command c.run-reached.result.look c.loop-progress.map) _ _ (walk_keeps _ _ _ (c.run-reached.ensures.walk c.loop-progress.map) c.loop-progress.invariant) c.turn-turned.result _ _ _ c.turn-turned.ensures.left
    _ _ c.in-Draws.is c.turn-turned.ensures.due _ c.in-Ok.ensures.drawn c.draw-drawn.new.cursors c.in-Ok.ensures.bodies refl _ c.in-Ok.ensures.steps).0

pub returns : goal.returns
returns c =
    hands_over _ _ c.args.piece.now c.args.out.now c.requires _ refl _ c.start-reached.ensures c.match-turned.answer c.run-reached.result.progress c.match-turned.cursors c.turn-turned.new.firsts (drawing_of (pen_of c.match-turned.text c.run-reached.result.tip) c.run-reached.result.command c.run-reached.result.look c.match-turned.map) c.turn-turned.new.store c.match-turned.out
    (elim c.match-turned.branch [
      | in-Ends w ↦ rw (w.answer-is, w.cursors-is, w.text-is, w.map-is, w.out-is) (loop_ends _ _ _ _ _ _ _ (drawing_of (pen_of c.run-reached.new.text c.run-reached.result.tip) c.run-reached.result.command c.run-reached.result.look c.loop-progress.map) _ _ (walk_keeps _ _ _ (c.run-reached.ensures.walk c.loop-progress.map) c.loop-progress.invariant) c.turn-turned.result _ _ _ c.turn-turned.ensures.left _ w.in-Ends.is)
      | in-Draws+in-Err w ↦ rw (w.answer-is, w.cursors-is, w.text-is, w.map-is, w.out-is) (loop_refused _ _ _ _ _ _ _ (drawing_of (pen_of c.run-reached.new.text c.run-reached.result.tip) c.run-reached.result.command c.run-reached.result.look c.loop-progress.map) _ _ (walk_keeps _ _ _ (c.run-reached.ensures.walk c.loop-progress.map) c.loop-progress.invariant) c.turn-turned.result _ _ _ c.turn-turned.ensures.left
          _ _ w.in-Draws.is c.turn-turned.ensures.due _ w.in-Err.ensures.drawn w.draw-drawn.new.cursors w.in-Err.ensures.bodies refl)
    ]) _ c.finish.ensures

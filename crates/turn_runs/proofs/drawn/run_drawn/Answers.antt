use Rattle.turn_runs.specs.Prelude.{arith, refl, ap, ◌∙◌, List, [], ℕ, length, get_or}
use Rattle.rules.specs.declared.Cursor.{Cursor}
use Rattle.rules.specs.Bodies.{nowhere}
use Rattle.pens.specs.Tips.{pen_of}
use Rattle.progress.specs.declared.Progress.{Progress}
use Rattle.coded_turns.specs.Walk.{none}
use Rattle.drawing_runs.proofs.RunLaws.{run_between}
use Rattle.turn_runs.proofs.ProgressLaws.{walk_drawn, cancelled_steps, cancelled_depth, lies_most, past_none, past_cells, part_most}
use Rattle.turn_runs.proofs.DrewLaws.{run_within}
use Rattle.turn_runs.proofs.drawn.run_drawn.Goals as goal

pub returns-then-not-awaits_nothing : goal.returns-then-not-awaits_nothing
returns-then-not-awaits_nothing c = record { walk = λ firsts map. none; most = omega arith; still = λ _. (refl, refl, refl); cells = λ i. refl }

pub bytes_next-next-requires : goal.bytes_next-next-requires
bytes_next-next-requires c =
    (c.requires.0.store, c.requires.0.depth, c.requires.0.on)

pub slice_bounds-bytes-end : goal.slice_bounds-bytes-end
slice_bounds-bytes-end c =
    omega (arith, c.bytes_next-next.ensures.lies.order, c.bytes_next-next.ensures.lies.within, ap (λ (l : List ℕ). length l) c.source_of-source.ensures)

pub returns-then-not-begins_drawn : goal.returns-then-not-begins_drawn
returns-then-not-begins_drawn c = record { walk = λ firsts map. none; most = omega arith; still = λ _. (refl, refl, refl); cells = λ i. refl }

pub draw_set-drew-requires : goal.draw_set-drew-requires
draw_set-drew-requires c =
    (c.requires.1, c.requires.2, c.requires.0.within)

pub draw_cancel-ran-requires : goal.draw_cancel-ran-requires
draw_cancel-ran-requires c =
    (c.draw_set-drew.ensures.most, run_within (c.draw_set-drew.ensures.ran []) c.requires.0.within)

pub read_past-requires : goal.read_past-requires
read_past-requires c =
    let most = part_most _ _ _ _ c.bytes_next-next.ensures.lies.order c.draw_cancel-ran.ensures.most in
    (c.requires.0.depth, c.bytes_next-next.ensures.lies.passes c.draw_cancel-ran.result.count most)

pub after_cancel-requires : goal.after_cancel-requires
after_cancel-requires c =
    let few = c.bytes_next-next.ensures.few.1 in
    let most = part_most _ _ _ _ c.bytes_next-next.ensures.lies.order c.draw_cancel-ran.ensures.most in
    let on = lies_most c.args.reached.progress.depth c.draw_cancel-ran.result.count c.bytes_next-next.ensures.lies most c.requires.0.on in
    (omega (arith, few, most), omega (arith, on, c.well_formed.1.1.1.1.1.1.0.0))

pub returns : goal.returns
returns c = let waits = c.awaits_nothing.ensures c.if-not-awaits_nothing.false in
    let text = c.draw_set-drew.new.text in
    let p = c.args.reached.progress in
    let next = c.bytes_next-next.result in
    let drew = part_most _ _ _ _ c.bytes_next-next.ensures.lies.order c.draw_set-drew.ensures.most in
    let most = part_most _ _ _ _ c.bytes_next-next.ensures.lies.order c.draw_cancel-ran.ensures.most in
    let steps = ap (λ (q : Progress). q.steps) c.after_cancel.ensures ∙ cancelled_steps c.draw_set-drew.result.count c.draw_cancel-ran.result.count c.draw_cancel-ran.result.at p in record {
      walk = λ firsts map. rw c.after_cancel.ensures
          (walk_drawn c.args.budget p c.args.cursors.now firsts (pen_of c.args.text.now c.args.reached.tip) c.args.reached.command c.args.reached.look map c.args.store.now c.args.piece.now c.args.out.now
          c.set_in_use.result _ text c.draw_set-drew.result c.draw_set-drew.new.out next.from next.to
          waits c.set_in_use.ensures c.source_of-source.ensures (run_between _ next.from next.to (omega (arith, drew)) (c.draw_set-drew.ensures.ran map)) c.bytes_next-next.ensures.few.0 c.bytes_next-next.ensures.lies
          c.draw_cancel-ran.result _ (c.draw_cancel-ran.ensures.cancels text) most _ c.read_past.ensures);
      most = omega (arith, steps, most, c.bytes_next-next.ensures.few.0);
      still = λ h. (omega (arith, h, steps), ap (λ (q : Progress). q.depth) c.after_cancel.ensures ∙ cancelled_depth c.draw_set-drew.result.count c.draw_cancel-ran.result.count c.draw_cancel-ran.result.at p (omega (arith, h, steps)), c.read_past.ensures ∙ past_none p.depth _ c.args.cursors.now (omega (arith, h, steps)));
      cells = λ i. ap (λ (l : List Cursor). (get_or l i nowhere).cell) c.read_past.ensures ∙ past_cells p.depth c.draw_cancel-ran.result.count c.args.cursors.now i;
    }

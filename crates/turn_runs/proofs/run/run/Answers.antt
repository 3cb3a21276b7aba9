use Rattle.turn_runs.specs.Prelude.{arith, refl, ℕ, List, []}
use Rattle.pens.specs.Tips.{pen_of}
use Rattle.figures.specs.Carried.{drawing_of}
use Rattle.rules.proofs.Steps.{valid_store, valid_depth}
use Rattle.coded_turns.proofs.ProgressLaws.{walk_then, walk_stands, walk_steps}
use Rattle.rules.proofs.DrawingRanges.{valid_domain, valid_command}
use Rattle.turn_runs.proofs.run.run.Goals as goal

pub overflow_sub-free : goal.overflow_sub-free
overflow_sub-free c =
    (c.requires []).within

-- The state is sound where the run begins, and so where coded bytes lead
pub run_coded-coded-requires : goal.run_coded-coded-requires
run_coded-coded-requires c =
    let v = (c.requires []).sound in
    (valid_store v, valid_depth v, v.waiting, (c.requires []).on)

pub run_drawn-requires : goal.run_drawn-requires
run_drawn-requires c =
    let d = drawing_of (pen_of c.args.text.now c.args.reached.tip) c.args.reached.command c.args.reached.look [] in
    let h = walk_stands (c.run_coded-coded.ensures.walk d c.args.out.now refl) (c.requires []) in
    let v = h.sound in
    (record { store = valid_store v; depth = valid_depth v; on = h.on; within = h.within }, valid_domain _ v.drawing, valid_command _ v.drawing)

pub shape_of-store : goal.shape_of-store
shape_of-store c =
    c.run_coded-coded.auto.store

pub returns : goal.returns
returns c = let coded = λ (map : List ℕ). c.run_coded-coded.ensures.walk (drawing_of (pen_of c.args.text.now c.args.reached.tip) c.args.reached.command c.args.reached.look map) c.args.out.now refl in
    let before = walk_steps (coded []) (c.requires []) in record {
      walk = λ map. walk_then (coded map) (c.run_drawn.ensures.walk _ map);
      most = omega (arith, c.run_drawn.ensures.most, c.run_coded-coded.ensures.most, before);
      spent = λ h.
          let still = c.run_drawn.ensures.still (omega (arith, h, before)) in
          rw (still.1, still.2) (c.run_coded-coded.ensures.spent (omega (arith, h, still.0)));
    }

use Rattle.std.specs.Prelude.{◌≡◌, ◌+◌, ◌*◌, ◌≤◌}
use Rattle.drawing_runs.specs.Prelude.{ℕ, refl, sym, subst, ◌∙◌, false, arith, length}
use Rattle.rules.specs.Numbers.{room_for_step}
use Rattle.rules.specs.Operands.{point, all_data}
use Rattle.drawing_runs.specs.Strokes.{Lines}
use Rattle.operands.proofs.WholeLaws.{three_told}
use Rattle.drawing_runs.proofs.StrokeLaws.{lines_none, lines_on}
use Rattle.std.proofs.Common.{rules}
use Rattle.drawing_runs.proofs.strokes.lines.Goals as goal

pub loop-n-init : goal.loop-n-init
loop-n-init c =
    record { long = refl; room = omega (arith, c.requires); lines = lines_none _ _ _ _ _ _ }

pub loop-n-preserved : goal.loop-n-preserved
loop-n-preserved c =
    let bytes = c.args.bytes.now in
    let h : 3 * c.loop-n.n + 3 ≤ length bytes = omega (arith, c.most_steps-most.ensures.0) in
    let g = c.most_steps-most.ensures.1 c.loop-n.n (omega arith) in
    let room : c.args.at + 40 * c.loop-n.n + room_for_step ≤ length c.loop-n.out = omega (arith, g, c.loop-n.invariant.long, c.requires) in
    let told = three_told bytes (3 * c.loop-n.n) h (λ i. (c.type_inv.bytes i).fits) all_data _ _ c.are_data.ensures c.three_bytes-w.ensures in
    let read = three_told bytes (3 * c.loop-n.n) h (λ i. (c.type_inv.bytes i).fits) (point false) _ _ c.point_of_three-q.ensures c.three_bytes-w.ensures in record {
      long = search rules;
      room = omega (arith, room, c.loop-n.invariant.long);
      lines = lines_on bytes c.loop-n.n _ h (sym told ∙ c.if-not-are_data.false) read c.args.head c.args.pel _ c.args.at _ c.loop-n.point c.loop-n.out _ room c.put_words.ensures c.loop-n.invariant.lines;
    }

pub returns-clause-ran : goal.returns-clause-ran
returns-clause-ran c =
    let all_read : c.loop-n.n ≡ c.most_steps-most.result = omega (arith, c.loop-n.auto.n-end, c.loop-n-test.false) in
    subst (λ (n : ℕ). Lines c.args.bytes.now 0 c.args.head c.args.pel c.args.point c.args.at c.args.out.now (3 * n) c.loop-n.point (c.args.at + 40 * n) c.loop-n.out) all_read c.loop-n.invariant.lines

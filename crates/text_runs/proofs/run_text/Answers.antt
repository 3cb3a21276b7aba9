use Rattle.std.specs.Prelude.{◌-◌, ◌≤◌}
use Rattle.text_runs.proofs.Prelude.{arith, refl, take, length-take-le}
use Rattle.drawing_runs.proofs.RunLaws.{run_taken}
use Rattle.line_runs.proofs.CharacterLaws.{puts_run, ran_none, ran_some}
use Rattle.text_runs.proofs.run_text.Goals as goal

pub put_text-put-requires : goal.put_text-put-requires
put_text-put-requires c =
    let long = length-take-le c.most_steps-most.result c.args.bytes.now c.most_steps-most.ensures.0 in
    ((λ n h. let g = c.most_steps-most.ensures.1 n (omega (arith, h, long)) in omega arith), (c.closed_by-hand.ensures c.args.pen refl c.requires.0).0)

pub returns-then-count-eq0 : goal.returns-then-count-eq0
returns-then-count-eq0 c =
    let bytes = c.args.bytes.now in
    let most = c.most_steps-most.result in
    let long = length-take-le most bytes c.most_steps-most.ensures.0 in
    let few : c.put_text-put.result.count ≤ most = omega (arith, c.put_text-put.ensures.most, long) in
    let closes = (c.closed_by-hand.ensures c.args.pen refl c.requires.0).1 in
    record { ran = λ m. ran_none _ _ _ _ _ m _ _ _ c.if-count-eq0.true (run_taken bytes most few (puts_run c.args.set c.common_of-common.result c.args.look (take most bytes) 0 c.args.at c.args.pen _ c.put_text-put.result.left _ _ c.put_text-put.result.count c.args.command c.common_of-common.ensures.0 c.common_of-common.ensures.1 closes c.put_text-put.ensures.puts m)); most = omega (arith, c.most_steps-most.ensures.0, few) }

pub overflow_mul-result : goal.overflow_mul-result
overflow_mul-result c =
    let long = length-take-le c.most_steps-most.result c.args.bytes.now c.most_steps-most.ensures.0 in
    let g = c.most_steps-most.ensures.1 (c.put_text-put.result.count - 1) (omega (arith, c.put_text-put.ensures.most, c.if-count-eq0.false, long)) in
    omega (arith, g, c.if-count-eq0.false, c.well_formed)

pub overflow_add-result : goal.overflow_add-result
overflow_add-result c =
    let long = length-take-le c.most_steps-most.result c.args.bytes.now c.most_steps-most.ensures.0 in
    let g = c.most_steps-most.ensures.1 (c.put_text-put.result.count - 1) (omega (arith, c.put_text-put.ensures.most, c.if-count-eq0.false, long)) in
    omega (arith, g, c.if-count-eq0.false, c.well_formed)

pub returns : goal.returns
returns c =
    let bytes = c.args.bytes.now in
    let most = c.most_steps-most.result in
    let long = length-take-le most bytes c.most_steps-most.ensures.0 in
    let few : c.put_text-put.result.count ≤ most = omega (arith, c.put_text-put.ensures.most, long) in
    let closes = (c.closed_by-hand.ensures c.args.pen refl c.requires.0).1 in
    record { ran = λ m. ran_some _ c.args.pen _ c.args.command _ m _ _ c.if-count-eq0.false c.resting.ensures c.new_command.ensures (run_taken bytes most few (puts_run c.args.set c.common_of-common.result c.args.look (take most bytes) 0 c.args.at c.args.pen _ c.put_text-put.result.left _ _ c.put_text-put.result.count c.args.command c.common_of-common.ensures.0 c.common_of-common.ensures.1 closes c.put_text-put.ensures.puts m)); most = omega (arith, c.most_steps-most.ensures.0, few) }

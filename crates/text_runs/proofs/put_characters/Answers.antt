use Rattle.text_runs.proofs.Prelude.{refl, ◌∙◌, arith}
use Rattle.line_runs.proofs.CharacterLaws.{goes_none, goes_then}
use Rattle.text_runs.proofs.put_characters.Goals as goal

pub loop-put-init : goal.loop-put-init
loop-put-init c =
    (omega arith, c.requires.0, refl, goes_none c.args.common c.args.bytes.now 0 c.args.at c.args.count c.args.hand.moved c.args.hand.text _)

pub put_some-put-requires : goal.put_some-put-requires
put_some-put-requires c =
    (c.loop-put-test.true, (λ n h. let g = c.requires.1 n h in omega (arith, g, c.loop-put.invariant.2)), c.is_character.ensures.0 c.if-is_character.true)

pub loop-put-smaller : goal.loop-put-smaller
loop-put-smaller c =
    omega (arith, c.put_some-put.ensures.most.0, c.put_some-put.ensures.most.1)

pub loop-put-preserved : goal.loop-put-preserved
loop-put-preserved c =
    let before = c.loop-put.put in
    let put = c.put_some-put.result in
    (omega (arith, c.loop-put.invariant.0, c.put_some-put.ensures.most.0), c.put_some-put.ensures.most.1, c.put_some-put.auto.out ∙ c.loop-put.invariant.2, goes_then c.args.common c.args.bytes.now 0 c.args.at c.args.count before.count put.count c.args.hand.moved before.left.moved put.left.moved c.args.hand.text before.left.text put.left.text _ _ _ c.loop-put.invariant.3 c.put_some-put.ensures.goes)

pub shape_of-out-after-loop-put : goal.shape_of-out-after-loop-put
shape_of-out-after-loop-put c = c.loop-put.invariant.2

pub returns-after-loop-put : goal.returns-after-loop-put
returns-after-loop-put c = record { goes = c.loop-put.invariant.3; most = (c.loop-put.invariant.0, c.loop-put.invariant.1) }

pub shape_of-out-else-is_character : goal.shape_of-out-else-is_character
shape_of-out-else-is_character c = c.loop-put.invariant.2

pub returns-else-is_character : goal.returns-else-is_character
returns-else-is_character c = record { goes = c.loop-put.invariant.3; most = (c.loop-put.invariant.0, c.loop-put.invariant.1) }

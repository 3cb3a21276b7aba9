use Rattle.text_runs.proofs.Prelude.{refl, ◌∙◌, arith}
use Rattle.line_runs.proofs.CharacterLaws.{goes_all, puts_none, puts_then}
use Rattle.text_runs.proofs.put_text.Goals as goal

pub loop-common-init : goal.loop-common-init
loop-common-init c =
    (omega arith, refl, c.requires.1, puts_none c.args.common c.args.bytes.now 0 c.args.at 0 _ _)

pub put_characters-put-requires : goal.put_characters-put-requires
put_characters-put-requires c =
    (c.loop-common.invariant.0, λ n h. let g = c.requires.0 n h in omega (arith, g, c.loop-common.invariant.1))

pub shape_of-out-then-put-bytes : goal.shape_of-out-then-put-bytes
shape_of-out-then-put-bytes c =
    c.put_characters-put.auto.out ∙ c.loop-common.invariant.1

pub returns-then-put-bytes : goal.returns-then-put-bytes
returns-then-put-bytes c = let k = c.args.common in
    let bs = c.args.bytes.now in
    let put = goes_all k bs 0 c.args.at c.loop-common.count c.put_characters-put.result.count c.loop-common.hand.moved c.put_characters-put.result.left.moved c.loop-common.hand.text c.put_characters-put.result.left.text c.loop-common.pen c.pen_of-pen.result _ _ c.loop-common.invariant.2 c.put_characters-put.ensures.goes c.pen_of-pen.ensures in
    record { puts = puts_then k bs 0 c.args.at 0 c.loop-common.count c.put_characters-put.result.count _ _ c.pen_of-pen.result _ _ _ c.loop-common.invariant.3 put; most = c.put_characters-put.ensures.most.1 }

pub put_format-formatted-requires : goal.put_format-formatted-requires
put_format-formatted-requires c =
    let g = c.requires.0 c.put_characters-put.result.count (omega (arith, c.put_characters-put.ensures.most.1, c.if-put-bytes.false)) in
    (omega (arith, c.put_characters-put.ensures.most.1, c.if-put-bytes.false), omega (arith, g, c.put_characters-put.auto.out, c.loop-common.invariant.1))

pub shape_of-out-then-formatted-put : goal.shape_of-out-then-formatted-put
shape_of-out-then-formatted-put c =
    c.put_format-formatted.auto.out ∙ (c.put_characters-put.auto.out ∙ c.loop-common.invariant.1)

pub returns-then-formatted-put : goal.returns-then-formatted-put
returns-then-formatted-put c = let k = c.args.common in
    let bs = c.args.bytes.now in
    let put = goes_all k bs 0 c.args.at c.loop-common.count c.put_characters-put.result.count c.loop-common.hand.moved c.put_characters-put.result.left.moved c.loop-common.hand.text c.put_characters-put.result.left.text c.loop-common.pen c.pen_of-pen.result _ _ c.loop-common.invariant.2 c.put_characters-put.ensures.goes c.pen_of-pen.ensures in
    record { puts = puts_then k bs 0 c.args.at 0 c.loop-common.count c.put_format-formatted.result.count _ _ c.put_format-formatted.result.left _ _ _ c.loop-common.invariant.3 (puts_then k bs 0 c.args.at c.loop-common.count c.put_characters-put.result.count c.put_format-formatted.result.count _ c.pen_of-pen.result c.put_format-formatted.result.left _ _ _ put c.put_format-formatted.ensures.puts); most = omega (arith, c.put_characters-put.ensures.most.1, c.if-formatted-put.true) }

pub loop-common-smaller : goal.loop-common-smaller
loop-common-smaller c =
    omega (arith, c.put_characters-put.ensures.most.0, c.put_characters-put.ensures.most.1, c.if-put-bytes.false, c.put_format-formatted.ensures.most.0, c.put_format-formatted.ensures.most.1, c.if-formatted-put.false)

pub loop-common-preserved : goal.loop-common-preserved
loop-common-preserved c =
    let k = c.args.common in
    let bs = c.args.bytes.now in
    let put = goes_all k bs 0 c.args.at c.loop-common.count c.put_characters-put.result.count c.loop-common.hand.moved c.put_characters-put.result.left.moved c.loop-common.hand.text c.put_characters-put.result.left.text c.loop-common.pen c.pen_of-pen.result _ _ c.loop-common.invariant.2 c.put_characters-put.ensures.goes c.pen_of-pen.ensures in
    (omega (arith, c.put_characters-put.ensures.most.1, c.if-put-bytes.false, c.put_format-formatted.ensures.most.1), c.put_format-formatted.auto.out ∙ (c.put_characters-put.auto.out ∙ c.loop-common.invariant.1), refl, puts_then k bs 0 c.args.at 0 c.loop-common.count c.put_format-formatted.result.count _ _ c.put_format-formatted.result.left _ _ _ c.loop-common.invariant.3 (puts_then k bs 0 c.args.at c.loop-common.count c.put_characters-put.result.count c.put_format-formatted.result.count _ c.pen_of-pen.result c.put_format-formatted.result.left _ _ _ put c.put_format-formatted.ensures.puts))

use Rattle.std.specs.Prelude.{◌≡◌, ◌-◌, ◌+◌}
use Rattle.bodies.specs.Prelude.{◌∙◌, sym, arith}
use Rattle.bodies.proofs.StackLaws.{left_none, left_here, left_below}
use Rattle.bodies.proofs.depth_left.Goals as goal

pub returns-then-has_left-clause-rule : goal.returns-then-has_left-clause-rule
returns-then-has_left-clause-rule c =
    let index : c.loop-index.index - 1 + 1 ≡ c.loop-index.index = omega arith in
    index ∙ sym (c.loop-index.invariant ∙ left_here _ _ _ c.loop-index-test.true c.has_left.ensures c.if-has_left.true)

pub loop-index-preserved : goal.loop-index-preserved
loop-index-preserved c =
    c.loop-index.invariant ∙ left_below _ _ _ c.loop-index-test.true c.has_left.ensures c.if-has_left.false

pub returns-clause-rule : goal.returns-clause-rule
returns-clause-rule c = sym (c.loop-index.invariant ∙ left_none _ _ _ c.loop-index-test.false)

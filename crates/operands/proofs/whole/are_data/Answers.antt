use Rattle.operands.proofs.WholeLaws.{third_tells, second_fails, first_fails}
use Rattle.operands.proofs.whole.are_data.Goals as goal

pub returns-then-w-eq1-2 : goal.returns-then-w-eq1-2
returns-then-w-eq1-2 c = λ b0 b1 b2 h0 h1 h2 e. third_tells c.args.w b0 b1 b2 h0 h1 h2 e c.if-w-eq1.true c.if-w-eq1-2.true

pub returns-else-w-eq1-2 : goal.returns-else-w-eq1-2
returns-else-w-eq1-2 c = λ b0 b1 b2 h0 h1 h2 e. second_fails c.args.w b0 b1 b2 h0 h1 h2 e c.if-w-eq1.true c.if-w-eq1-2.false

pub returns-else-w-eq1 : goal.returns-else-w-eq1
returns-else-w-eq1 c = λ b0 b1 b2 h0 h1 h2 e. first_fails c.args.w b0 b1 b2 h0 h1 h2 e c.if-w-eq1.false

use Rattle.bodies.specs.Prelude.{ap, not, ℕ, eqb}
use Rattle.rules.specs.Bodies.{bytes_left}
use Rattle.bodies.proofs.bytes_left.Goals as goal

pub returns : goal.returns
unfolding bytes_left
returns c = ap (λ (n : ℕ). not (eqb n 0)) c.depth_left.ensures.rule

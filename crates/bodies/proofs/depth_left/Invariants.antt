use Rattle.std.specs.Prelude.{◌≡◌}
use Rattle.rules.specs.Bodies.{depth_left}
use Rattle.bodies.specs.Stack.{bodies_of}
use Rattle.bodies.proofs.depth_left.Given as goal

-- The bodies from here on are spent
abbrev pub invariant-loop-index : goal.invariant-loop-index
invariant-loop-index l = depth_left l.store (bodies_of l.depth l.cursors) l.depth ≡ depth_left l.store (bodies_of l.depth l.cursors) l.index

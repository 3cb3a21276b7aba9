-- The running bodies as they are lent: the depth, and beside it where each body is read
use Rattle.std.specs.Prelude.{◌≡◌}
use Rattle.bodies.specs.Prelude.{ℕ, List}
use Rattle.rules.specs.declared.Action.{Action}
use Rattle.rules.specs.declared.Bodies.{Bodies}
use Rattle.rules.specs.declared.Cursor.{Cursor}
use Rattle.rules.specs.Step.{bodies_after}

abbrev pub bodies_of : ℕ → List Cursor → Bodies
bodies_of depth cursors = record { depth = depth; cursors = cursors }

-- What an action does to the running bodies, by their depth before and after it: each stays where it is read
abbrev pub DepthAfter : Action → ℕ → ℕ → Type 0
DepthAfter a d e = (cursors : List Cursor) → bodies_of e cursors ≡ bodies_after a (bodies_of d cursors)

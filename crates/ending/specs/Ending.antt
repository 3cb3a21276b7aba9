-- The session that end leaves
use Rattle.rules.specs.declared.Drawing.{Drawing}
use Rattle.rules.specs.declared.Session.{Session}
use Rattle.rules.specs.declared.Status.{Status}

-- The session with another status and drawing state
abbrev pub session_with : Status → Drawing → Session → Session
session_with x d s =
    record { budget = s.budget; steps = s.steps; status = x; bodies = s.bodies; coding = s.coding; drawing = d }

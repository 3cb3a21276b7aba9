-- What a reading that has ended hands over
use Rattle.progress.specs.Prelude.{ℕ, List}
use Rattle.rules.specs.declared.Answer.{Answer}
use Rattle.rules.specs.declared.Answer.TheVariants.{Done, Full, Refused}
use Rattle.rules.specs.declared.Cursor.{Cursor}
use Rattle.rules.specs.declared.Drawing.{Drawing}
use Rattle.rules.specs.declared.Fed.{Fed}
use Rattle.rules.specs.declared.Session.{Session}
use Rattle.rules.specs.declared.Status.{Status}
use Rattle.rules.specs.declared.Status.TheVariants.{Running, Stopped}
use Rattle.bodies.specs.Stack.{bodies_of}
use Rattle.reactions.specs.View.{coding_of}
use Rattle.progress.specs.declared.Progress.{Progress}

abbrev pub status_after : Answer → Status
status_after Done = Running
status_after Full = Running
status_after (Refused r) = Stopped r

abbrev pub session_after : Answer → ℕ → Progress → List Cursor → List ℕ → Drawing → Session
session_after a budget p cursors firsts d =
    record {
      budget = budget;
      steps = p.steps;
      status = status_after a;
      bodies = bodies_of p.depth cursors;
      coding = coding_of p.sets p.waiting firsts;
      drawing = d;
    }

abbrev pub fed_of : Answer → Progress → Session → Fed
fed_of a p s = record { answer = a; consumed = p.at; written = p.written; session = s }

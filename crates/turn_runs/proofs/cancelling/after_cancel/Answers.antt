use Rattle.turn_runs.specs.Prelude.{ap, lt-ltb, le-ltb}
use Rattle.progress.specs.Progress.{at_depth}
use Rattle.turn_runs.proofs.cancelling.after_cancel.Goals as goal

pub returns-then-drew-ran : goal.returns-then-drew-ran
returns-then-drew-ran c =
    rw (lt-ltb _ _ c.if-drew-ran.true) (ap (at_depth 0) c.after_run-after.ensures)

pub returns : goal.returns
returns c =
    rw (le-ltb _ _ c.if-drew-ran.false) c.after_run-after.ensures

-- What is kept along a walk
use Rattle.std.specs.Prelude.{◌-◌}
use Rattle.reading.proofs.Prelude.{ℕ, ◌∙◌, List, length, drop}
use Rattle.rules.specs.Reading.{Room, steps_left}
use Rattle.rules.specs.Step.{State, remove_spent}
use Rattle.rules.proofs.Readings.{reading_removed}
use Rattle.coded_turns.specs.Walk.{Place, Walk, none, removed, step}
use Rattle.coded_turns.proofs.ProgressLaws.{walk_stands}
use Rattle.reading.proofs.Whole.{Kept, kept_on}

abbrev KeptAt : State → List ℕ → List ℕ → Place → Type 0
KeptAt w piece out x = Kept w piece out x.state x.at x.written x.output

pub walk_keeps : (w : State) (piece out : List ℕ) {x y : Place} → Walk piece x y → KeptAt w piece out x → KeptAt w piece out y
unfolding remove_spent
walk_keeps w piece out none i = i
walk_keeps w piece out (removed {y} a) i =
    let j = walk_keeps w piece out a i in
    record {
      same = j.same ∙ rw (reading_removed (Room (length y.output - y.written)) (steps_left y.state) y.state (drop y.at piece));
      past = j.past;
      long = j.long;
      stands = walk_stands (removed none) j.stands;
    }
walk_keeps w piece out (step {y} a b e) i =
    kept_on w piece out y.state y.at y.written y.output (walk_keeps w piece out a i) b e

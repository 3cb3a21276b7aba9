-- How far a reading has come, and each way in which it goes on
use Rattle.std.specs.Prelude.{◌+◌}
use Rattle.progress.specs.Prelude.{ℕ, zero, suc}
use Rattle.rules.specs.declared.Drawing.{Drawing}
use Rattle.rules.specs.declared.Sets.{Sets}
use Rattle.rules.specs.declared.Waiting.{Waiting}
use Rattle.rules.specs.declared.Session.{Session}
use Rattle.pens.specs.Tips.{tip_of}
use Rattle.progress.specs.declared.Progress.{Progress}
use Rattle.progress.specs.declared.Reached.{Reached}

-- Where a reading starts from a session
abbrev pub start_of : Session → Reached
start_of s =
    record {
      progress =
          record {
            at = 0;
            written = 0;
            steps = s.steps;
            depth = s.bodies.depth;
            sets = s.coding.sets;
            waiting = s.coding.waiting;
          };
      tip = tip_of s.drawing.pen;
      command = s.drawing.command;
      look = s.drawing.look;
    }

-- An accepted step, which counts
abbrev pub steps_to : ℕ → ℕ → Sets → Waiting → Progress → Progress
steps_to at depth s x p =
    record { at = at; written = p.written; steps = p.steps + 1; depth = depth; sets = s; waiting = x }

-- With so many bodies running
abbrev pub at_depth : ℕ → Progress → Progress
at_depth d p =
    record {
      at = p.at;
      written = p.written;
      steps = p.steps;
      depth = d;
      sets = p.sets;
      waiting = p.waiting;
    }

-- With the records of a step
abbrev pub written_to : ℕ → Progress → Progress
written_to n p =
    record { at = p.at; written = n; steps = p.steps; depth = p.depth; sets = p.sets; waiting = p.waiting }

-- The place of the piece after so many bytes, of a body or of the piece
abbrev pub place_after : ℕ → ℕ → ℕ → ℕ
place_after zero n at = at + n
place_after (suc i) n at = at

-- The progress after a run of so many drawn bytes, with the place after their records
abbrev pub ran_on : ℕ → ℕ → Progress → Progress
ran_on n written p =
    record {
      at = place_after p.depth n p.at;
      written = written;
      steps = p.steps + n;
      depth = p.depth;
      sets = p.sets;
      waiting = p.waiting;
    }

-- After a run of bytes of the piece that write no record
abbrev pub coded_on : ℕ → ℕ → Sets → Waiting → Progress → Progress
coded_on n d s x p =
    record {
      at = p.at + n;
      written = p.written;
      steps = p.steps + n;
      depth = d;
      sets = s;
      waiting = x;
    }

-- With an action drawn, its records written up to a place
abbrev pub drawn_to : ℕ → Drawing → Progress → Reached
drawn_to n d p = record { progress = written_to n p; tip = tip_of d.pen; command = d.command; look = d.look }

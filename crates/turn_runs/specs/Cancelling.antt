-- A CAN after a run
use Rattle.std.specs.Prelude.{◌+◌, ◌≤◌, ◌≡◌}
use Rattle.turn_runs.specs.Prelude.{ℕ, suc, List, length, get_or, ltb}
use Rattle.rules.specs.declared.Action.TheVariants.{Cancel}
use Rattle.rules.specs.declared.Look.{Look}
use Rattle.rules.specs.declared.Text.{Text}
use Rattle.rules.specs.Numbers.{can, room_for_step}
use Rattle.rules.specs.Choice.{pick}
use Rattle.rules.specs.Drawing.{act}
use Rattle.pens.specs.Tips.{pen_of}
use Rattle.pens.specs.declared.tips.Tip.{Tip}
use Rattle.figures.specs.Carried.{carry_out, drawing_of}
use Rattle.drawing_runs.specs.Run.{standing}
use Rattle.drawing_runs.specs.declared.Ran.{Ran}
use Rattle.progress.specs.declared.Progress.{Progress}
use Rattle.progress.specs.Progress.{at_depth, ran_on}

-- From what a run drew, x, to r: nothing more, or the next byte is a CAN and is drawn, the text staying as it is
pub data CancelsTo (bytes : List ℕ) (t : Text) (l : Look) (x : Ran Tip) (out : List ℕ) : Ran Tip → List ℕ → Type 0 where
  kept : CancelsTo bytes t l x out x out
  cancelled : {r : Ran Tip} {left : List ℕ} → r.count ≡ suc x.count → get_or bytes x.count 0 ≡ can
      → x.at + room_for_step ≤ length out
      → ((m : List ℕ) → standing (pen_of t r.left) r.command l m r.at left
      ≡ carry_out (act (Cancel can)) (drawing_of (pen_of t x.left) x.command l m) x.at out)
      → CancelsTo bytes t l x out r left

-- The progress after so many bytes, the last a CAN where they are more than the run drew: then no body runs
abbrev pub cancelled_on : ℕ → ℕ → ℕ → Progress → Progress
cancelled_on drew ran written p = pick (ltb drew ran) (at_depth 0 (ran_on ran written p)) (ran_on ran written p)

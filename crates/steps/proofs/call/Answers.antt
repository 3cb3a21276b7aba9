use Rattle.rules.specs.declared.Sets.{Sets}
use Rattle.progress.specs.Progress.{steps_to}
use Rattle.reactions.specs.View.{sets_after}
use Rattle.steps.proofs.StepLaws.{ends_due, call_deep, call_goes, call_sets}
use Rattle.std.specs.Prelude.{◌+◌}
use Rattle.steps.specs.Prelude.{refl, ap}
use Rattle.steps.proofs.call.Goals as goal

pub returns-then-depth-ge-MOST_DEPTH : goal.returns-then-depth-ge-MOST_DEPTH
returns-then-depth-ge-MOST_DEPTH c = record { left = λ budget d st out. call_deep budget c.args.progress c.args.cursors.now c.args.firsts.now d st out c.args.onward.cursor c.args.name (sets_after c.args.reacted.effect c.args.progress.sets) c.args.reacted.waiting c.ends.result c.ends.ensures c.if-depth-ge-MOST_DEPTH.true; due = ends_due c.args.progress c.args.progress c.ends.result _ c.ends.ensures }

pub returns-clause-left : goal.returns-clause-left
returns-clause-left c = λ budget d st out. call_goes budget c.args.progress c.args.cursors.now c.args.firsts.now d st out c.args.onward.cursor c.args.name (sets_after c.args.reacted.effect c.args.progress.sets) c.args.reacted.waiting c.read_on.new.cursors _ c.first_of-cell.result c.args.onward.at c.if-depth-ge-MOST_DEPTH.false c.read_on.ensures c.first_of-cell.ensures refl c.requires.0.after _ (ap (λ (s : Sets). steps_to c.args.onward.at (c.args.progress.depth + 1) s c.args.reacted.waiting c.args.progress) (call_sets _ _ _ c.requires.2))

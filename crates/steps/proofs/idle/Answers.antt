use Rattle.steps.specs.Prelude.{ap}
use Rattle.rules.specs.declared.Sets.{Sets}
use Rattle.progress.specs.Progress.{steps_to}
use Rattle.reactions.specs.View.{sets_after}
use Rattle.steps.proofs.StepLaws.{idle_goes}
use Rattle.steps.proofs.idle.Goals as goal

pub returns-clause-left : goal.returns-clause-left
returns-clause-left c = λ budget d firsts st out. idle_goes budget c.args.progress c.args.cursors.now firsts d st out c.args.onward.cursor (sets_after c.args.reacted.effect c.args.progress.sets) c.args.reacted.waiting c.read_on.new.cursors c.args.onward.at c.read_on.ensures c.requires.0.after _ (ap (λ (s : Sets). steps_to c.args.onward.at c.args.progress.depth s c.args.reacted.waiting c.args.progress) c.requires.1)

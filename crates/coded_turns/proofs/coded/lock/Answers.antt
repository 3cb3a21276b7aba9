use Rattle.coded_turns.specs.Prelude.{ap}
use Rattle.rules.specs.declared.Sets.{Sets}
use Rattle.progress.specs.Progress.{coded_on}
use Rattle.coded_turns.proofs.coded.lock.Goals as goal

pub returns : goal.returns
returns c =
    ap (λ (s : Sets). coded_on 1 c.args.progress.depth s c.args.progress.waiting c.args.progress) c.in_use.ensures

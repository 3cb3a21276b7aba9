use Rattle.steps.proofs.StepLaws.{idle_sets}
use Rattle.steps.proofs.ask.Goals as goal

pub idle-requires : goal.idle-requires
idle-requires c =
    (c.requires.0, idle_sets _ _ _ c.requires.1 c.in-Idle.is)

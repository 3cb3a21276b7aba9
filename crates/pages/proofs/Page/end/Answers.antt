use Rattle.std.proofs.Common.{arith}
use Rattle.pages.proofs.Written.{ended_within}
use Rattle.pages.proofs.Page.end.Goals as goal

pub shared_whole_as_front-hand_on : goal.shared_whole_as_front-hand_on
shared_whole_as_front-hand_on g c = omega (arith, ended_within c.end-ended.ensures, c.end-ended.auto.out)

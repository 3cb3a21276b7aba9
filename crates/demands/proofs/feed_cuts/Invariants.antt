use Rattle.rules.specs.Step.{state_lent}
use Rattle.rules.specs.Promises.{handed_of}
use Rattle.demands.proofs.CutLaws.{Going}
use Rattle.demands.proofs.feed_cuts.Given as goal

-- The calls so far, and those that are left
abbrev pub invariant-loop-i : goal.invariant-loop-i
invariant-loop-i l =
    Going (state_lent l.fn.session l.fn.store) l.page l.lengths l.rooms l.fn.out l.i l.lent (handed_of l.fed l.store l.out)

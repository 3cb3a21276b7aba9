use Rattle.coding_runs.specs.Prelude.{arith, ℕ}
use Rattle.std.proofs.Common.{length-take}
use Rattle.store.proofs.EachLaws.{then_part}
use Rattle.coding_runs.proofs.DefinitionLaws.{end_idle}
use Rattle.coding_runs.proofs.IdleLaws.{stores_idle}
use Rattle.coding_runs.proofs.defining.run_body.Goals as goal

pub returns-then-escape_then-clause-ran : goal.returns-then-escape_then-clause-ran
returns-then-escape_then-clause-ran c =
    let read = c.escape_then.ensures.0 c.if-escape_then.true in
    λ s. then_part _ _ _ _ (stores_idle s _ _ _ _ _ c.fill-count.ensures.stored) _ 2 (omega (arith, read.0, length-take {A = ℕ})) (end_idle _ 0 s _ _ read.1 _ read.2)

pub returns-clause-ran : goal.returns-clause-ran
returns-clause-ran c = λ s. stores_idle s _ _ _ _ _ c.fill-count.ensures.stored

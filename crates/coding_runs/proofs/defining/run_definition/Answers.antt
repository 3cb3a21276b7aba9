use Rattle.rules.specs.Ranges.{waiting_fits}
use Rattle.store.specs.Each.{none}
use Rattle.coding.proofs.ReactLaws.{is_name}
use Rattle.std.proofs.Common.{rules}
use Rattle.coding_runs.proofs.defining.run_definition.Goals as goal

pub run_body-requires : goal.run_body-requires
unfolding waiting_fits
run_body-requires c =
    (search rules, is_name _ (rw c.in-Body.is at c.requires.1))

pub returns-in_default-clause-ran : goal.returns-in_default-clause-ran
returns-in_default-clause-ran c = λ s. none

use Rattle.reader.proofs.EndLaws.{end_fails, end_valid, end_is}
use Rattle.reader.proofs.Promising.{ends}
use Rattle.rules.specs.Reading.{tests}
use Rattle.reader.specs.Prelude.{refl, ◌∙◌}
use Rattle.reader.proofs.end.end.Goals as goal

pub end_running-requires : goal.end_running-requires
unfolding tests
end_running-requires c =
    end_valid c.args.session c.args.store.now c.args.out.now c.verdict.result c.verdict.ensures c.in-Ok.is

pub returns-in-Err : goal.returns-in-Err
unfolding tests
returns-in-Err c =
    ends (end_fails c.args.session c.args.store.now c.args.out.now c.verdict.result c.verdict.ensures _ _ c.in-Err.is refl)

pub returns-in-Ok : goal.returns-in-Ok
unfolding tests
returns-in-Ok c =
    ends (c.end_running.ensures ∙ end_is _ _)

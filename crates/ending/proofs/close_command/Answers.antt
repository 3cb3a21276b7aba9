use Rattle.rules.specs.declared.Action.TheVariants.{Close}
use Rattle.drawing.proofs.Refusals.{act_vertices}
use Rattle.ending.proofs.EndLaws.{stopped_so, ended_so}
use Rattle.ending.proofs.close_command.Goals as goal

pub returns-in-Ok : goal.returns-in-Ok
returns-in-Ok c = λ st.
    ended_so _ c.args.session _ _ st _ _ c.in-Ok.ensures

pub returns-in-Err : goal.returns-in-Err
returns-in-Err c = λ st.
    let s = c.args.session in
    stopped_so _ s _ st _ _ _ (act_vertices Close s.drawing) c.in-Err.ensures (rw c.from.ensures at c.stop.ensures)

use Rattle.std.proofs.Common.{refl}
use Rattle.command_steps.proofs.EffectorLaws.{format_runs}
use Rattle.command_steps.proofs.effectors.run_format.Goals as goal

pub returns-in-Formats-clause-ran : goal.returns-in-Formats-clause-ran
returns-in-Formats-clause-ran c =
    format_runs c.args.bytes.now 0 _ _ c.format_text-tip.new.text c.args.tip c.format_text-tip.result c.args.command c.args.look c.args.at _ c.mark_next-next.result _ _ (c.control_of-control.ensures _ c.in-Formats.is) c.requires.0 c.requires.2 (λ s o m z. c.mark_next-next.ensures.drawn c.args.look s o m (record { head = c.head_of-ink.ensures; size = refl }) z) c.mark_next-next.ensures.left.0 c.either-behind.ensures c.format_text-tip.ensures

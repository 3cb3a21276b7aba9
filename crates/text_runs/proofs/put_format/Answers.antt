use Rattle.text_runs.proofs.Prelude.{arith}
use Rattle.line_runs.proofs.CharacterLaws.{format_on, code_at}
use Rattle.text_runs.proofs.put_format.Goals as goal

pub returns-in-Formats : goal.returns-in-Formats
returns-in-Formats c = record { puts = format_on c.args.common c.args.bytes.now 0 c.args.at _ c.args.count _ c.args.pen _ _ _ (code_at c.args.bytes.now c.args.count) (c.control_of-control.ensures _ c.in-Formats.is) c.requires.1 c.put_mark.ensures c.format.ensures; most = (omega arith, omega arith) }

use Rattle.std.specs.Prelude.{◌-◌}
use Rattle.std.proofs.Common.{◌∙◌}
use Rattle.rules.specs.Drawing.{rows, other}
use Rattle.rules.proofs.OpcodeRows.{row_at}
use Rattle.rules.proofs.Tables.{at, past}
use Rattle.std.proofs.Common.{rules}
use Rattle.opcodes.proofs.row_of.Goals as goal

pub returns-in-32-to-63 : goal.returns-in-32-to-63
unfolding rows
returns-in-32-to-63 c =
    let opcode = c.args.opcode in
    at rows c.rows.ensures (opcode - 32) _ other (search rules) ∙ row_at opcode

pub returns-in_default-2 : goal.returns-in_default-2
unfolding rows
returns-in_default-2 c = past rows other c.args.opcode 32 (search rules) ∙ row_at c.args.opcode

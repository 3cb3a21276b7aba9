use Rattle.std.proofs.Common.{le-add_right, le_refl, ap}
use Rattle.rules.specs.declared.Command.{Command}
use Rattle.commands.proofs.ActionLaws.{open_marked, open_unmarked}
use Rattle.commands.proofs.opening.open_at.Goals as goal

pub returns-then-row-eq9 : goal.returns-then-row-eq9
returns-then-row-eq9 c = record { drawn = λ l t o s m k. open_marked _ _ _ _ _ _ c.new_command-command.ensures c.requires.0 _ c.if-row-eq9.true (c.put_mark.ensures l k); opcode = ap (λ (x : Command). x.opcode) c.new_command-command.ensures; most = le_refl _ }

pub returns : goal.returns
returns c = record { drawn = λ l t o s m k. open_unmarked _ _ _ _ _ _ c.new_command-command.ensures c.requires.0 c.if-row-eq9.false; opcode = ap (λ (x : Command). x.opcode) c.new_command-command.ensures; most = le-add_right _ 40 }

use Rattle.rules.specs.Ranges.{command_fits}
use Rattle.ranges.proofs.RangeLaws.{and_first, and_second}
use Rattle.ranges.proofs.drawing_state.command_fits.Goals as goal

pub returns-then-opcode_fits : goal.returns-then-opcode_fits
unfolding command_fits
returns-then-opcode_fits c = and_second c.opcode_fits.ensures c.if-opcode_fits.true c.vertices_fit.ensures

pub returns-else-opcode_fits : goal.returns-else-opcode_fits
unfolding command_fits
returns-else-opcode_fits c = and_first _ c.opcode_fits.ensures c.if-opcode_fits.false

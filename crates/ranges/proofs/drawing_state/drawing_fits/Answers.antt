use Rattle.rules.specs.Ranges.{drawing_fits}
use Rattle.ranges.proofs.RangeLaws.{and_first, and_second}
use Rattle.ranges.proofs.drawing_state.drawing_fits.Goals as goal

pub returns-then-command_fits : goal.returns-then-command_fits
unfolding drawing_fits
returns-then-command_fits c =
    and_second c.domain_fits.ensures c.if-domain_fits.true (and_second c.colour_fits.ensures c.if-colour_fits.true (and_second c.command_fits.ensures c.if-command_fits.true c.operand_fits.ensures))

pub returns-else-command_fits : goal.returns-else-command_fits
unfolding drawing_fits
returns-else-command_fits c =
    and_second c.domain_fits.ensures c.if-domain_fits.true (and_second c.colour_fits.ensures c.if-colour_fits.true (and_first _ c.command_fits.ensures c.if-command_fits.false))

pub returns-else-colour_fits : goal.returns-else-colour_fits
unfolding drawing_fits
returns-else-colour_fits c =
    and_second c.domain_fits.ensures c.if-domain_fits.true (and_first _ c.colour_fits.ensures c.if-colour_fits.false)

pub returns-else-domain_fits : goal.returns-else-domain_fits
unfolding drawing_fits
returns-else-domain_fits c =
    and_first _ c.domain_fits.ensures c.if-domain_fits.false

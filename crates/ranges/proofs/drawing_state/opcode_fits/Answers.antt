use Rattle.ranges.specs.Prelude.{eq-eqb, ne_eqb}
use Rattle.rules.specs.Ranges.{opcode_fits}
use Rattle.ranges.proofs.drawing_state.opcode_fits.Goals as goal

pub returns-then-opcode-eq0 : goal.returns-then-opcode-eq0
unfolding opcode_fits
returns-then-opcode-eq0 c = simp (eq-eqb _ _ c.if-opcode-eq0.true)

pub returns-else-opcode-eq0 : goal.returns-else-opcode-eq0
unfolding opcode_fits
returns-else-opcode-eq0 c = simp (ne_eqb _ _ c.if-opcode-eq0.false) c.within.ensures

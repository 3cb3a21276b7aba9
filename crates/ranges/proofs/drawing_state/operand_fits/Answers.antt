use Rattle.ranges.specs.Prelude.{eq-eqb, ne_eqb}
use Rattle.rules.specs.Ranges.{begun_fits}
use Rattle.ranges.proofs.drawing_state.operand_fits.Goals as goal

pub returns-then-count-eq0 : goal.returns-then-count-eq0
unfolding begun_fits
returns-then-count-eq0 c = simp (eq-eqb _ _ c.if-count-eq0.true)

pub returns : goal.returns
unfolding begun_fits
returns c =
    simp (ne_eqb _ _ c.if-count-eq0.false, c.length_of.ensures, c.role_due.ensures, c.row_of-row.ensures)

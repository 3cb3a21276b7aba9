use Rattle.rules.specs.Drawing.{apply}
use Rattle.figures.proofs.Carrying.{none_carried}
use Rattle.applying.proofs.apply.Goals as goal

pub returns-in-Lengths : goal.returns-in-Lengths
unfolding apply
returns-in-Lengths c = none_carried _ _ _ _ (rw (c.in-Lengths.is, c.domain_of-drawing.ensures, c.byte_of.ensures))

pub returns-in-Pel : goal.returns-in-Pel
unfolding apply
returns-in-Pel c = none_carried _ _ _ _ (rw (c.in-Pel.is, ← c.point_of-p.ensures))

pub returns-in-TextFirst : goal.returns-in-TextFirst
unfolding apply
returns-in-TextFirst c = none_carried _ _ _ _ (rw (c.in-TextFirst.is, c.with_first-drawing.ensures, c.byte_of-in-TextFirst.ensures))

pub returns-in-TextSecond : goal.returns-in-TextSecond
unfolding apply
returns-in-TextSecond c = none_carried _ _ _ _ (rw (c.in-TextSecond.is, c.with_second-drawing.ensures, c.byte_of-in-TextSecond.ensures))

pub returns-in-TextField : goal.returns-in-TextField
unfolding apply
returns-in-TextField c = none_carried _ _ _ _ (rw (c.in-TextField.is, c.with_field-drawing.ensures, ← c.point_of-p.ensures))

pub returns-in-Foreground : goal.returns-in-Foreground
unfolding apply
returns-in-Foreground c = none_carried _ _ _ _ (rw (c.in-Foreground.is, c.set_foreground.ensures, c.address_of.ensures))

pub returns-in-Background : goal.returns-in-Background
unfolding apply
returns-in-Background c = none_carried _ _ _ _ (rw (c.in-Background.is, c.set_background.ensures, c.address_of-in-Background.ensures))

pub returns-in-StepSize : goal.returns-in-StepSize
unfolding apply
returns-in-StepSize c = none_carried _ _ _ _ (rw (c.in-StepSize.is, ← c.point_of-p.ensures))

use Rattle.std.proofs.Common.{le_of_lt, ap, ◌∙◌}
use Rattle.rules.specs.Drawing.{Outcome, act}
use Rattle.figures.specs.Carried.{carry}
use Rattle.figures.proofs.Carrying.{none_carried}
use Rattle.drawing.proofs.RangeLaws.{count_most, foreground_most, vertices_most}
use Rattle.drawing.proofs.AfterLaws.{closes_first}
use Rattle.drawing.proofs.act.Goals as goal

pub data_byte-requires : goal.data_byte-requires
data_byte-requires c =
    (count_most _ c.requires.0, foreground_most _ c.requires.0, vertices_most _ c.requires.0, c.requires.1)

pub close_and-requires : goal.close_and-requires
close_and-requires c =
    (le_of_lt (count_most _ c.requires.0), foreground_most _ c.requires.0, c.requires.1)

pub returns-in-Idle : goal.returns-in-Idle
unfolding act
returns-in-Idle c = none_carried _ _ _ _ (rw c.in-Idle.is)

pub returns-in-Position : goal.returns-in-Position
unfolding act
returns-in-Position c = none_carried _ _ _ _ (rw (c.in-Position.is, c.placed-drawing.ensures))

pub returns-in-Data : goal.returns-in-Data
unfolding act
returns-in-Data c = rw (c.in-Data.is, ← c.row_of.ensures) c.data_byte.ensures

pub returns-in_default : goal.returns-in_default
returns-in_default c =
    let d = c.args.drawing.now in
    c.close_and.ensures ∙ ap (λ (o : Outcome). carry o d c.args.at c.args.out.now) (closes_first _ d c.in_default.not-Idle c.in_default.not-Position c.in_default.not-Data)

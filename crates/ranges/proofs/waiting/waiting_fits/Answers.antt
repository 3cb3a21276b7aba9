use Rattle.std.proofs.Common.{inl, inr}
use Rattle.ranges.proofs.RangeLaws.{others_fit}
use Rattle.rules.specs.Ranges.{waiting_fits}
use borrow.Enum.Refused.{opened}
use Rattle.ranges.proofs.waiting.waiting_fits.Goals as goal

pub returns-in-Body : goal.returns-in-Body
unfolding waiting_fits
returns-in-Body c =
    elim c.in-Body.is [ inl e ↦ rw e c.name_fits.ensures | inr e ↦ rw e c.name_fits.ensures ]

pub returns-in-Column : goal.returns-in-Column
unfolding waiting_fits
returns-in-Column c =
    rw c.in-Column.is c.row_fits.ensures

pub returns-in_default : goal.returns-in_default
unfolding waiting_fits
returns-in_default c =
    others_fit c.args.w (opened c.in_default.in_default-own.keys4)

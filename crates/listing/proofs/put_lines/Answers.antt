use Rattle.std.specs.Prelude.{◌≡◌, ◌+◌, ◌*◌, ◌-◌}
use Rattle.listing.specs.Prelude.{arith, add-one, refl}
use Rattle.digits.proofs.Places.{nothing, joined}
use Rattle.listing.specs.Text.{lines_to}
use Rattle.std.proofs.Common.{rules}
use Rattle.listing.proofs.put_lines.Goals as goal

pub loop-i-init : goal.loop-i-init
unfolding lines_to
loop-i-init c = record { lines = nothing _ _; short = omega arith; long = refl }

pub loop-i-preserved : goal.loop-i-preserved
unfolding lines_to
loop-i-preserved c =
    let forty : 40 * c.loop-i.i + 40 - 40 * c.loop-i.i ≡ 40 = omega arith in record { lines = rw (add-one) (joined (omega arith) c.loop-i.invariant.lines (rw forty at c.put_line-to.ensures.put)); short = omega arith; long = search rules }

use Rattle.queries.proofs.Prelude.{lt-leb, le-leb}
use Rattle.rules.specs.Calls.{colour}
use Rattle.queries.proofs.QueryLaws.{shades}
use Rattle.queries.proofs.colour.colour.Goals as goal

pub returns-then-address-gt15 : goal.returns-then-address-gt15
unfolding colour
returns-then-address-gt15 c = shades (rw (lt-leb _ _ c.if-address-gt15.true))

pub returns : goal.returns
unfolding colour
returns c = shades (rw (le-leb _ _ c.if-address-gt15.false))

use Rattle.digits.proofs.Places.{joined}
use Rattle.listing.specs.Text.{field_of, fields_to}
use Rattle.listing.specs.Prelude.{arith, add-one, le-ltb}
use Rattle.std.proofs.Common.{rules}
use Rattle.listing.proofs.put_line.Goals as goal

pub loop-i-preserved : goal.loop-i-preserved
unfolding fields_to field_of
loop-i-preserved c =
    let coordinate = rw c.word_at.ensures at c.put_signed-end.ensures.put in
    let end = rw c.separator.ensures at c.put_byte-to.ensures in
    let field = joined (omega arith) coordinate end in (
      (λ l h p. rw (add-one, le-ltb c.loop-i.i 8 (omega arith)) (joined h (c.loop-i.invariant.0 l h p) field)),
      omega (arith, c.put_byte-to.ensures.end),
      search rules,
    )

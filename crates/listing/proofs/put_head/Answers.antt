use Rattle.listing.specs.Prelude.{arith, add-one, refl, lt-ltb}
use Rattle.digits.proofs.Decimals.{decimal_length}
use Rattle.digits.proofs.Places.{nothing, joined}
use Rattle.listing.specs.Text.{field_of, separator, fields_to}
use Rattle.std.proofs.Common.{rules}
use Rattle.listing.proofs.put_head.Goals as goal

pub loop-i-init : goal.loop-i-init
unfolding fields_to
loop-i-init c = record { fields = nothing _ _; short = omega arith; long = refl }

pub put_byte-to-requires : goal.put_byte-to-requires
put_byte-to-requires c =
    omega (arith, c.put_short-end.ensures.end, decimal_length 2 20 c.from.result (omega (arith, c.from.ensures, (c.type_inv.bytes c.loop-i.i).fits)))

pub loop-i-preserved : goal.loop-i-preserved
unfolding fields_to field_of separator
loop-i-preserved c =
    let field = joined (omega arith) c.put_short-end.ensures c.put_byte-to.ensures in record {
      fields = rw (add-one, lt-ltb c.loop-i.i 8 (omega (arith, c.loop-i-test.true)), lt-ltb c.loop-i.i 15 (omega arith), ← c.from.ensures)
          (joined (omega arith) c.loop-i.invariant.fields field);
      short = omega (arith, c.put_short-end.ensures.end, c.put_byte-to.ensures.end, decimal_length 2 20 c.from.result (omega (arith, c.from.ensures, (c.type_inv.bytes c.loop-i.i).fits)));
      long = search rules;
    }

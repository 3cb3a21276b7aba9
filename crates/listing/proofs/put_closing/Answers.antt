use Rattle.digits.proofs.Places.{joined}
use Rattle.listing.proofs.Places.{counts}
use Rattle.listing.specs.Text.{closing}
use Rattle.listing.specs.Prelude.{arith}
use Rattle.listing.proofs.put_closing.Goals as goal

pub returns : goal.returns
unfolding closing
returns c = let begun = joined (omega arith) c.put-word.ensures c.put_number-first.ensures.put in
    let second = joined (omega arith) (joined (omega arith) begun c.put-second.ensures) c.put_number-end.ensures.put in record {
      put = rw (← c.from.ensures) (joined (omega arith) second c.put.ensures);
      prefix_len = counts _ _ (omega (
        arith,
        c.requires,
        c.put-word.ensures.end,
        c.put_number-first.ensures.upper_bound,
        c.put-second.ensures.end,
        c.put_number-end.ensures.upper_bound,
        c.put.ensures.end,
      ));
    }

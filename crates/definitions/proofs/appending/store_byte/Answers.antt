use Rattle.definitions.specs.Prelude.{refl, eq-eqb, ne_eqb, lt-ltb, le-ltb}
use Rattle.rules.specs.Store.{store_byte}
use Rattle.definitions.proofs.StoringLaws.{in_stored}
use Rattle.definitions.proofs.appending.store_byte.Goals as goal

pub returns-then-definition-eq0 : goal.returns-then-definition-eq0
unfolding store_byte
returns-then-definition-eq0 c = record { stored = simp (eq-eqb _ _ c.if-definition-eq0.true) c.store_in_new.ensures.stored; refused = c.store_in_new.ensures.refused }

pub returns-then-not-good_count : goal.returns-then-not-good_count
unfolding store_byte
returns-then-not-good_count c = simp (ne_eqb _ _ c.if-definition-eq0.false, ← c.count_of-count.ensures, ← c.good_count.ensures, c.if-not-good_count.true) record { stored = refl; refused = (refl, refl) }

pub returns-then-count-lt-MOST_BYTES : goal.returns-then-count-lt-MOST_BYTES
unfolding store_byte
returns-then-count-lt-MOST_BYTES c = simp (ne_eqb _ _ c.if-definition-eq0.false, ← c.count_of-count.ensures, ← c.good_count.ensures, c.if-not-good_count.false, lt-ltb _ _ c.if-count-lt-MOST_BYTES.true) record { stored = in_stored _ _ _ _ _ _ _ c.set_body_byte.ensures c.set_count.ensures; refused = tt }

pub returns : goal.returns
unfolding store_byte
returns c = record { stored = simp (ne_eqb _ _ c.if-definition-eq0.false, ← c.count_of-count.ensures, ← c.good_count.ensures, c.if-not-good_count.false, le-ltb _ _ c.if-count-lt-MOST_BYTES.false) c.store_in_new-2.ensures.stored; refused = c.store_in_new-2.ensures.refused }

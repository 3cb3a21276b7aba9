use Rattle.definitions.specs.Prelude.{refl, sym, ◌∙◌}
use Rattle.definitions.proofs.StoringLaws.{new_none, new_stored}
use Rattle.definitions.proofs.appending.store_in_new.Goals as goal

pub returns-then-cell-eq0 : goal.returns-then-cell-eq0
returns-then-cell-eq0 c = record { stored = sym (new_none _ _ _ (sym c.next_of-cell.ensures ∙ c.if-cell-eq0.true)); refused = (refl, refl) }

pub returns : goal.returns
returns c = record { stored = rw (← c.next_of-cell.ensures) (new_stored _ _ _ _ _ _ _ _ _ _ c.if-cell-eq0.false c.take_cell.ensures c.link_cell-longer.ensures c.set_body_byte.ensures); refused = tt }

use Rattle.store.specs.Prelude.{◌∙◌, sym}
use Rattle.store.proofs.ChainLaws.{free_none, free_long, free_ends}
use Rattle.store.proofs.chains.free_body.Goals as goal

pub returns-then-first-eq0-clause-freed : goal.returns-then-first-eq0-clause-freed
returns-then-first-eq0-clause-freed c = free_none _ _ c.if-first-eq0.true

pub returns-in_default-clause-freed : goal.returns-in_default-clause-freed
returns-in_default-clause-freed c =
    free_long _ _ c.if-first-eq0.false (sym c.in_default.is ∙ c.last_cell.ensures)

pub returns-clause-freed : goal.returns-clause-freed
returns-clause-freed c =
    free_ends _ _ _ _ _ _ c.if-first-eq0.false (sym c.in-Some.is ∙ c.last_cell.ensures) c.next_of-free.ensures c.set_next.ensures c.set_next-2.ensures

use Rattle.definitions.proofs.StoringLaws.{link_first, link_more}
use Rattle.definitions.proofs.appending.link_cell.Goals as goal

pub returns-then-definition-eq0 : goal.returns-then-definition-eq0
returns-then-definition-eq0 c =
    link_first _ _ _ _ _ c.if-definition-eq0.true c.set_first.ensures

pub returns-else-definition-eq0 : goal.returns-else-definition-eq0
returns-else-definition-eq0 c =
    link_more _ _ _ _ _ c.if-definition-eq0.false c.set_next.ensures

use Rattle.definitions.proofs.StoringLaws.{taken}
use Rattle.definitions.proofs.appending.take_cell.Goals as goal

pub returns : goal.returns
returns c =
    taken _ _ _ _ _ _ c.next_of-rest.ensures c.set_next.ensures c.set_next-2.ensures c.set_count.ensures

use Rattle.rules.specs.Reading.{steps_left}
use Rattle.rules.specs.Step.{State, state_lent}
use Rattle.pages.specs.Pieces.{PiecesRead}
use Rattle.pages.proofs.Page.read.Given as goal

-- Pieces that are read from here on are read from the start on
abbrev pub invariant-loop : goal.invariant-loop
invariant-loop g l =
    (v : State) → PiecesRead (state_lent l.self.session l.self.store) v → PiecesRead (state_lent l.initial.self.session l.initial.self.store) v

abbrev pub decreases-loop : goal.decreases-loop
decreases-loop g l = steps_left (state_lent l.self.session l.self.store)

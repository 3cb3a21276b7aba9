use Rattle.std.specs.Prelude.{◌≡◌, take}
use Rattle.rules.specs.Reading.{steps_left}
use Rattle.rules.specs.Step.{state_lent}
use Rattle.reader.proofs.PieceLaws.{PieceUnread}
use Rattle.pages.proofs.Page.feed.Given as goal

-- The piece stays, and is read as far as the place
abbrev pub invariant-loop-at : goal.invariant-loop-at
invariant-loop-at g l =
    (l.self.piece ≡ l.initial.self.piece)
    × PieceUnread (state_lent l.initial.self.session l.initial.self.store) (take l.n l.initial.self.piece) l.at (state_lent l.self.session l.self.store)

abbrev pub decreases-loop-at : goal.decreases-loop-at
decreases-loop-at g l = steps_left (state_lent l.self.session l.self.store)

-- A piece fed until it is read or a step is refused, each call lent what the one before left unread
use Rattle.std.specs.Prelude.{◌≡◌}
use Rattle.reader.specs.Prelude.{List, ℕ}
use Rattle.rules.specs.declared.Answer.{Answer}
use Rattle.rules.specs.declared.Answer.TheVariants.{Done, Full, Refused}
use Rattle.rules.specs.Step.{State}
use Rattle.rules.specs.Reading.{undivided}

-- What follows an answer: read, the next piece, after done; ends, the end of the page, after a refusal. Full is no answer of a whole
-- piece
abbrev pub NextAfter : {N : Type 0} → N → N → N → Answer → Type 0
NextAfter read ends n Done = n ≡ read
NextAfter read ends n Full = ⊥
NextAfter read ends n (Refused r) = n ≡ ends

-- From the state w to v the piece was read as the undivided reading reads it, and n is what follows its answer
pub record PieceRead {N : Type 0} (read ends : N) (w : State) (piece : List ℕ) (n : N) (v : State) : Type 0 where
  pub state : v ≡ (undivided w piece).state
  pub next : NextAfter read ends n (undivided w piece).answer

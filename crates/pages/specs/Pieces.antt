-- Pieces read in turn, each as the undivided reading reads it, from the state that the one before left
use Rattle.std.specs.Prelude.{ℕ, List}
use Rattle.rules.specs.Step.{State}
use Rattle.reader.specs.PieceRead.{PieceRead}
use Rattle.pages.specs.declared.Next.{Next}
use Rattle.pages.specs.declared.Next.TheVariants.{Piece, End}

-- From the state w to v: after a refusal no piece follows
pub data PiecesRead : State → State → Type 0 where
  none : {w : State} → PiecesRead w w
  last : {w v : State} {piece : List ℕ} → PieceRead Piece End w piece End v → PiecesRead w v
  more : {w u v : State} {piece : List ℕ} → PieceRead Piece End w piece Piece u → PiecesRead u v → PiecesRead w v

-- What was read before the next piece, and before the end: one piece, or none at the end of the input
abbrev pub AfterPiece : State → State → Next → Type 0
AfterPiece w v Piece = (piece : List ℕ) × PieceRead Piece End w piece Piece v
AfterPiece w v End = PiecesRead w v

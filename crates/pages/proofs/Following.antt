-- What follows a piece that was fed
use Rattle.std.specs.Prelude.{◌≡◌, ℕ, List, Result, Ok, Err, IfOk, IsOk}
use Rattle.rules.specs.Step.{State}
use Rattle.reader.specs.PieceRead.{PieceRead}
use Rattle.pages.specs.declared.Next.{Next}
use Rattle.pages.specs.declared.Next.TheVariants.{Piece, End}
use Rattle.pages.specs.Pieces.{AfterPiece, last}

pub after_piece : {E : Type 0} (w v : State) (piece : List ℕ) (r : Result Next E) → IfOk r (λ next. PieceRead Piece End w piece next v)
    → IfOk r (λ next. AfterPiece w v next)
after_piece w v piece (Ok Piece) h = (piece, h)
after_piece w v piece (Ok End) h = last h
after_piece w v piece (Err e) h = h

-- Nothing is Ok and an error at once, so from one that would be, another is Ok
pub ok_no_error : {A B D : Type 0} (r : Result A D) (s : Result B D) (e : D) → IsOk r → r ≡ Err e → IsOk s
ok_no_error (Ok x) s e ok w = cc
ok_no_error (Err y) s e ok w = cc

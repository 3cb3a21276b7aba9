-- A stretch of the store: the next bytes of a body, as far as they lie in one cell
use Rattle.std.specs.Prelude.{◌+◌, ◌≡◌, Some}
use Rattle.store.specs.Prelude.{ℕ, suc, true, List, get_or}
use Rattle.rules.specs.declared.Cursor.{Cursor}
use Rattle.rules.specs.Bodies.{has_left, read_body}

-- So many bytes on in the cell
abbrev pub on_by : ℕ → Cursor → Cursor
on_by k x = record { cell = x.cell; place = x.place + k }

-- The byte k of the stretch is the one that the body gives once k were read
pub record Gives (st : List ℕ) (x : Cursor) (from k : ℕ) : Type 0 where
  pub left : has_left st (on_by k x) ≡ true
  pub read : read_body st (on_by k x) ≡ Some (get_or st (from + k) 0, on_by (suc k) x)

-- Operands whose bytes have all come
use Rattle.std.specs.Prelude.{◌+◌, ◌*◌, Option, None, Some}
use Rattle.operands.specs.Prelude.{ℕ, Bool, List, get_or}
use Rattle.rules.specs.declared.Point.{Point}
use Rattle.rules.specs.Choice.{pick}
use Rattle.rules.specs.Operands.{point, all_data}

-- The point of bytes that are all data
unfoldable pub whole_of : Bool → List ℕ → Option Point
whole_of three bs = pick (all_data bs) (Some (point three bs)) None

-- Three bytes as a number, the first the lowest
abbrev pub three_of : ℕ → ℕ → ℕ → ℕ
three_of b0 b1 b2 = b0 + b1 * 256 + b2 * 65536

abbrev pub three_at : List ℕ → ℕ → ℕ
three_at bs at = three_of (get_or bs at 0) (get_or bs (at + 1) 0) (get_or bs (at + 2) 0)

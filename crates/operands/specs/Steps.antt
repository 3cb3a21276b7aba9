-- An operand's point byte by byte, and a colour three-tuple by three-tuple
use Rattle.std.specs.Prelude.{◌+◌, ◌*◌, ◌-◌, ◌/◌, ◌%◌}
use Rattle.operands.specs.Prelude.{ℕ, Bool, true, false}
use Rattle.rules.specs.declared.Point.{Point}
use Rattle.rules.specs.Operands.{x_bits, y_bits, green, red, blue, from_top, wrapped_sum}
use Rattle.operands.specs.declared.Hue.{Hue}

-- The bits of a coordinate that a byte has, in two dimensions and in three
abbrev pub width : Bool → ℕ
width false = 3
width true = 2

-- The point of an operand with one more byte, after i: its bits stand below those of the bytes before
unfoldable pub joined : Bool → ℕ → ℕ → Point → Point
joined three i b p =
    record {
      x = wrapped_sum p.x (from_top (32 - width three * i) (x_bits three b));
      y = wrapped_sum p.y (from_top (32 - width three * i) (y_bits three b));
    }

-- A three-tuple's bits, each below those of its colour gathered before
abbrev pub with_tuple : ℕ → Hue → Hue
with_tuple t h = record { green = h.green * 2 + green t; red = h.red * 2 + red t; blue = h.blue * 2 + blue t }

-- The two three-tuples of a byte
abbrev pub with_tuples : ℕ → Hue → Hue
with_tuples b h = with_tuple (b % 8) (with_tuple (b / 8 % 8) h)

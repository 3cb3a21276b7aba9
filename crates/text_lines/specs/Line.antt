-- The cursors of characters on one line
use Rattle.std.specs.Prelude.{◌+◌, ◌*◌, ◌-◌, ◌/◌, ◌%◌, ◌^◌, ◌<◌, ◌≤◌, ◌≡◌, ℕ, zero, suc, Bool, true, false}
use Rattle.rules.specs.declared.Operand.{Operand}
use Rattle.rules.specs.declared.Pair.{Pair}
use Rattle.rules.specs.declared.Pair.TheVariants.{NoPair}
use Rattle.rules.specs.declared.Path.{Path}
use Rattle.rules.specs.declared.Path.TheVariants.{Right, Left, Up, Down}
use Rattle.rules.specs.declared.Point.{Point}
use Rattle.rules.specs.declared.Reach.{Reach}
use Rattle.rules.specs.declared.Text.{Text}
use Rattle.rules.specs.Numbers.{screen_side}
use Rattle.rules.specs.Text.{with_cursor, aligned, advance}

-- Both coordinates as one number
abbrev pub packed : Point → ℕ
packed p = p.x + 4294967296 * p.y

abbrev pub unpacked : ℕ → Point
unpacked n = record { x = n % 4294967296; y = n / 4294967296 }

-- The packed cursor after i characters, each a step further
abbrev pub place_after : ℕ → ℕ → ℕ → ℕ
place_after step c zero = c
place_after step c (suc i) = (place_after step c i + step) % 2 ^ 64

abbrev pub cursor_after : Text → ℕ → ℕ → Point
cursor_after t step i = unpacked (place_after step (packed t.cursor) i)

-- A line of so many characters: each advances the cursor by the step, whatever pair was begun
abbrev pub Straight : Text → ℕ → ℕ → Type 0
Straight t most step =
    (i : ℕ) → i < most → (p : Point) (w : Pair) (o : Operand)
    → advance (record { point = p; text = with_cursor (cursor_after t step i) w t; operand = o })
    ≡ aligned (with_cursor (cursor_after t step (suc i)) NoPair t) (record { point = p; text = with_cursor (cursor_after t step i) w t; operand = o })

-- On an axis: after i + 1 strides of a length from c on the field is on the screen, and no end of it is reached
abbrev pub Within : Reach → Bool → ℕ → ℕ → ℕ → Type 0
Within r true n c i = (r.before ≤ c) × (c + suc i * n ≤ screen_side - r.after) × (c + suc i * n < screen_side)
Within r false n c i = r.before + suc i * n ≤ c

-- What is added to a packed cursor, and wraps, for a length in a direction
abbrev pub IsStep : Path → ℕ → ℕ → Type 0
IsStep Right n s = s ≡ n
IsStep Left n s = (s + n) % 2 ^ 64 ≡ 0
IsStep Up n s = s ≡ n % 4294967296 * 4294967296
IsStep Down n s = (s + n % 4294967296 * 4294967296) % 2 ^ 64 ≡ 0

-- 02, 5/13, "Incremental outlines": the codes of INCREMENTAL LINE 3/10 and INCREMENTAL POLYGON 3/11. "Read them by the move tables in
-- source document 000: ..": its sentences are those of Annex D, D.5.3.3.6.4 and D.5.3.3.6.5, cited here and in Drawing
use Rattle.std.specs.Prelude.{◌+◌, ◌-◌, ◌/◌, ◌%◌, ◌^◌, ◌||◌, ◌∷◌}
use Rattle.rules.specs.Prelude.{ℕ, Bool, true, false, List, [], eqb}
use Rattle.rules.specs.Types.{Point, Outline, Line, Polygon, Due, First, Second, Third, Past}
use Rattle.rules.specs.Choice.{pick}

-- ".. an indefinite number of bytes, each of which contains three two-bit nibbles in the numeric data field that are interpreted b6 to
-- b1.": b6 b5, then b4 b3, then b2 b1
abbrev pub codes : ℕ → List ℕ
codes b = b / 16 % 4 ∷ b / 4 % 4 ∷ b % 4 ∷ []

-- A code names axes: 01 x, 10 y, 11 both
abbrev pub names_x : ℕ → Bool
names_x code = eqb code 1 || eqb code 3

abbrev pub names_y : ℕ → Bool
names_y code = eqb code 2 || eqb code 3

-- "Advance the drawing point a distance dx in the x direction", "a distance dy in the y direction", or both: the displacement, by the
-- step dx, dy
unfoldable pub displacement : ℕ → Point → Point
displacement code v = record { x = pick (names_x code) v.x 0; y = pick (names_y code) v.y 0 }

-- "Change sign of dx", "of dy", "of dx and dy". 02: "A sign change wraps at 32 bits .."
unfoldable pub negated : ℕ → ℕ
negated n = (2 ^ 32 - n) % 2 ^ 32

unfoldable pub sign_changed : ℕ → Point → Point
sign_changed code v =
    record { x = pick (names_x code) (negated v.x) v.x; y = pick (names_y code) (negated v.y) v.y }

-- "When a nibble value of (0,0) is encountered .., the next nibble is interpreted as a modify parameter instruction ..": the third
-- operand of the pattern; the second is a move
abbrev pub change_due : Due → Bool
change_due First = false
change_due Second = false
change_due Third = true
change_due Past = false

-- Whether a change is due after a code, by whether the code is one: after 00 that is none, and in a polygon after a change of 00
abbrev pub changes_after : Outline → ℕ → Bool → Bool
changes_after o code false = eqb code 0
changes_after Line code true = false
changes_after Polygon code true = eqb code 0

-- The moves among codes, the first of them being a change or not
abbrev pub moves_in : Outline → List ℕ → Bool → ℕ
moves_in o [] w = 0
moves_in o (c ∷ cs) w = pick (w || eqb c 0) 0 1 + moves_in o cs (changes_after o c w)

-- The definitions of this file, unfolded where a reading is computed
unfoldable pub increments_rules : Unit {0}
unfolding displacement negated sign_changed
increments_rules = tt

-- What an advance leaves of a text
use Rattle.std.specs.Prelude.{◌≡◌}
use Rattle.rules.specs.declared.Coordinate.{Coordinate}
use Rattle.rules.specs.declared.FieldBox.{FieldBox}
use Rattle.rules.specs.declared.Operand.{Operand}
use Rattle.rules.specs.declared.Pair.{Pair}
use Rattle.rules.specs.declared.Pair.TheVariants.{Automatic}
use Rattle.rules.specs.declared.Path.{Path}
use Rattle.rules.specs.declared.Point.{Point}
use Rattle.rules.specs.declared.Reach.{Reach}
use Rattle.rules.specs.declared.Text.{Text}
use Rattle.rules.specs.Text.{coordinate_of, held, entry_edge, row_step, interrow_quarters, row_direction, forwards, on_axis, with_cursor, aligned, cursor_along, advance}

-- A text whose cursor was put on the axis of a direction and across it, both coordinates held
abbrev pub put_along : Path → FieldBox → Coordinate → Coordinate → Pair → Text → Text
put_along d b p q w t = with_cursor (record { x = held b.x (on_axis d p q); y = held b.y (on_axis d q p) }) w t

-- A row step from where the cursor is held
abbrev pub held_row : Path → Reach → Text → Coordinate
held_row d r t = row_step r (forwards d) (interrow_quarters t.settings.interrow) (held r (coordinate_of (cursor_along d t)))

-- The text after the automatic APR APD of a field with a box
abbrev pub wrapped : Path → FieldBox → Text → Text
wrapped d b t =
    let r = row_direction d in
    put_along d b (entry_edge (on_axis d b.x b.y) (forwards d)) (held_row r (on_axis r b.x b.y) t) Automatic t

-- An advance leaves the text u of t, and the drawing point aligned with it
abbrev pub Advances : Text → Text → Type 0
Advances t u =
    ((p : Point) (o : Operand) → advance (record { point = p; text = t; operand = o }) ≡ aligned u (record { point = p; text = t; operand = o }))
    × (u.settings ≡ t.settings)

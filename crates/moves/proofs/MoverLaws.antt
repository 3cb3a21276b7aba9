-- What an advance leaves of a text, and the drawing point aligned once at its end
use Rattle.std.specs.Prelude.{◌≡◌, refl, ℕ, true, false}
use Rattle.std.proofs.Common.{ap, ◌∙◌}
use Rattle.rules.specs.declared.Coordinate.{Coordinate}
use Rattle.rules.specs.declared.Moving.{Moving}
use Rattle.rules.specs.declared.Moving.TheVariants.{Together, CursorLeads, PointLeads, Independent}
use Rattle.rules.specs.declared.Pair.{Pair}
use Rattle.rules.specs.declared.Pair.TheVariants.{NoPair, Automatic}
use Rattle.rules.specs.declared.Path.{Path}
use Rattle.rules.specs.declared.Path.TheVariants.{Right, Left, Up, Down}
use Rattle.rules.specs.declared.Pen.{Pen}
use Rattle.rules.specs.declared.Point.{Point}
use Rattle.rules.specs.declared.Text.{Text}
use Rattle.rules.specs.Text.{held, led, point_at, with_cursor, with_pair, aligned}
use Rattle.rules.specs.Text.{coordinate_of, entry_edge, row_step, field_box}
use Rattle.rules.specs.Text.{interrow_quarters, row_direction, along_x, forwards}
use Rattle.rules.specs.Text.{paired, set_cursor, cursor_along, set_along, enter, row_in, row_down}
use Rattle.rules.specs.Text.{first_position, automatic_pair}
use Rattle.rules.proofs.TextLaws.{held_again, set_set}
use Rattle.moves.specs.Advance.{put_along, wrapped}

-- The cursor set along a direction
pub along_text : (d : Path) (p : Coordinate) (s : Pen) → set_along d p s ≡ aligned (put_along d (field_box s.text) p (coordinate_of (cursor_along (row_direction d) s.text)) NoPair s.text) s
unfolding set_along set_cursor along_x
along_text Right p s = refl
along_text Left p s = refl
along_text Up p s = refl
along_text Down p s = refl

-- The drawing point does not depend on a pair
led_paired : (m : Moving) (w : Pair) (t : Text) (p : Point) → led m t p ≡ led m (with_pair w t) p
unfolding led point_at
led_paired Together w t p = refl
led_paired CursorLeads w t p = refl
led_paired PointLeads w t p = refl
led_paired Independent w t p = refl

-- The cursor set twice, the second time on the other axis: only places that are held count
module _ (s : Pen) (e : Coordinate) (row : ℕ → Coordinate) where
  wrap_x : paired Automatic (set_cursor (coordinate_of (set_cursor e (coordinate_of s.text.cursor.y) s).text.cursor.x) (row (set_cursor e (coordinate_of s.text.cursor.y) s).text.cursor.y) (set_cursor e (coordinate_of s.text.cursor.y) s))
      ≡ aligned (with_cursor (record { x = held (field_box s.text).x e; y = held (field_box s.text).y (row (held (field_box s.text).y (coordinate_of s.text.cursor.y))) }) Automatic s.text) s
  unfolding set_cursor
  wrap_x =
      let t = s.text in
      let b = field_box t in
      let y = row (held b.y (coordinate_of t.cursor.y)) in
      let again = held_again b.x e in
      let u : Text = with_cursor (record { x = held b.x e; y = held b.y y }) NoPair t in
      let point = led_paired t.settings.moving Automatic u s.point in
      ap (paired Automatic) (set_set (coordinate_of (held b.x e)) y e (coordinate_of t.cursor.y) s)
      ∙ (λ i. paired Automatic (aligned (with_cursor (record { x = again i; y = held b.y y }) NoPair t) s))
      ∙ (λ i. record { point = point i; text = with_pair Automatic u; operand = s.operand })

  wrap_y : paired Automatic (set_cursor (row (set_cursor (coordinate_of s.text.cursor.x) e s).text.cursor.x) (coordinate_of (set_cursor (coordinate_of s.text.cursor.x) e s).text.cursor.y) (set_cursor (coordinate_of s.text.cursor.x) e s))
      ≡ aligned (with_cursor (record { x = held (field_box s.text).x (row (held (field_box s.text).x (coordinate_of s.text.cursor.x))); y = held (field_box s.text).y e }) Automatic s.text) s
  unfolding set_cursor
  wrap_y =
      let t = s.text in
      let b = field_box t in
      let x = row (held b.x (coordinate_of t.cursor.x)) in
      let again = held_again b.y e in
      let u : Text = with_cursor (record { x = held b.x x; y = held b.y e }) NoPair t in
      let point = led_paired t.settings.moving Automatic u s.point in
      ap (paired Automatic) (set_set x (coordinate_of (held b.y e)) (coordinate_of t.cursor.x) e s)
      ∙ (λ i. paired Automatic (aligned (with_cursor (record { x = held b.x x; y = again i }) NoPair t) s))
      ∙ (λ i. record { point = point i; text = with_pair Automatic u; operand = s.operand })

wrapped_text : (d : Path) (s : Pen) → paired Automatic (row_in (row_direction d) (enter d s)) ≡ aligned (wrapped d (field_box s.text) s.text) s
unfolding row_in enter set_along set_cursor along_x forwards
wrapped_text Right s = wrap_x s (entry_edge (field_box s.text).x true) (λ v. row_step (field_box s.text).y false (interrow_quarters s.text.settings.interrow) v)
wrapped_text Left s = wrap_x s (entry_edge (field_box s.text).x false) (λ v. row_step (field_box s.text).y true (interrow_quarters s.text.settings.interrow) v)
wrapped_text Up s = wrap_y s (entry_edge (field_box s.text).y true) (λ v. row_step (field_box s.text).x true (interrow_quarters s.text.settings.interrow) v)
wrapped_text Down s = wrap_y s (entry_edge (field_box s.text).y false) (λ v. row_step (field_box s.text).x false (interrow_quarters s.text.settings.interrow) v)

pub automatic_text : (s : Pen) → automatic_pair s ≡ aligned (wrapped s.text.settings.path (field_box s.text) s.text) s
unfolding automatic_pair row_down first_position enter set_along set_cursor
automatic_text s = wrapped_text s.text.settings.path s

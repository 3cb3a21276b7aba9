-- The cursor that is behind, and follows the point by the move attribute of its text
use Rattle.std.specs.Prelude.{◌≡◌, refl, Bool, true, false}
use Rattle.std.proofs.Common.{ap}
use Rattle.rules.specs.declared.Pen.{Pen}
use Rattle.rules.specs.declared.Point.{Point}
use Rattle.rules.specs.declared.Text.{Text}
use Rattle.rules.specs.Drawing.{no_operand}
use Rattle.rules.specs.Text.{following}
use Rattle.rules.proofs.TextLaws.{follow_follow}
use Rattle.pens.specs.Tips.{caught_up}

-- A text whose cursor is behind follows the next point as if it were not
pub caught_follows : (b : Bool) (t : Text) (p q : Point) → following (caught_up b p t).settings.moving q (caught_up b p t) ≡ following t.settings.moving q t
caught_follows true t p q = ap (λ (s : Pen). s.text) (follow_follow q p (record { point = p; text = t; operand = no_operand }))
caught_follows false t p q = refl

-- A pen apart from its text
use Rattle.std.specs.Prelude.{Bool, true, false}
use Rattle.rules.specs.declared.Pen.{Pen}
use Rattle.rules.specs.declared.Point.{Point}
use Rattle.rules.specs.declared.Text.{Text}
use Rattle.rules.specs.Text.{following}
use Rattle.pens.specs.declared.tips.Tip.{Tip}

-- The text once its cursor has followed the point, where it is behind
abbrev pub caught_up : Bool → Point → Text → Text
caught_up true p t = following t.settings.moving p t
caught_up false p t = t

-- The pen of a text
abbrev pub pen_of : Text → Tip → Pen
pen_of t x = record { point = x.point; text = caught_up x.behind x.point t; operand = x.operand }

-- The tip of a pen whose cursor is not behind
abbrev pub tip_of : Pen → Tip
tip_of s = record { point = s.point; operand = s.operand; behind = false }

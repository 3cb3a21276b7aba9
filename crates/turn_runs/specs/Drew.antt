-- The tip of a pen after a run that looks at no text
use Rattle.turn_runs.specs.Prelude.{ℕ, zero, suc, Bool, true, false}
use Rattle.rules.specs.declared.Point.{Point}
use Rattle.rules.specs.Drawing.{no_operand}
use Rattle.pens.specs.declared.tips.Tip.{Tip}

-- The tip after so many bytes that looked at no text, with the drawing point moved to q or not: as lent where none has come
abbrev pub tip_after : ℕ → Bool → Point → Tip → Tip
tip_after zero w q x = x
tip_after (suc n) true q x = record { point = q; operand = no_operand; behind = true }
tip_after (suc n) false q x = record { point = x.point; operand = no_operand; behind = x.behind }

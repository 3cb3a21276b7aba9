use Rattle.drawing_runs.specs.Prelude.{sym, ◌∙◌, eqb-true}
use Rattle.rules.proofs.Bools.{true_false}
use Rattle.figures.specs.Tracing.{pen_at}
use Rattle.drawing_runs.proofs.StrokeLaws.{ready_told}
use Rattle.std.proofs.Common.{rules}
use Rattle.drawing_runs.proofs.strokes.is_ready.Goals.{then-operand-eq0, else-operand-eq0}
use Rattle.drawing_runs.proofs.strokes.is_ready.Goals as goal

pub returns-then-eq : goal.returns-then-eq
returns-then-eq c =
    let operand = c.well_formed.0 in
    elim c.if-operand-eq0.branch [
      | then-operand-eq0 w ↦ λ h kind drawn p t. ready_told (pen_at p t c.args.operand) c.args.command c.args.look (search (rules, operand)) w.if-operand-eq0.true (search (rules, w.eq.ensures, w.value-is, c.if-eq.true)) _ c.has_three.ensures h drawn
      | else-operand-eq0 w ↦ λ h kind drawn p t. absurd (w.if-operand-eq0.false (eqb-true _ _ (sym w.value-is ∙ c.if-eq.true)))
    ]

pub returns-else-eq : goal.returns-else-eq
returns-else-eq c = λ e. true_false (sym e ∙ c.if-eq.false)

use Rattle.rules.proofs.Bools.{false_true}
use Rattle.steps.proofs.StepLaws.{none_run, inside_none, inside_some}
use Rattle.steps.specs.Prelude.{sym, ◌∙◌}
use Rattle.steps.proofs.opens_inside.Goals.{then-depth-ne0, else-depth-ne0}
use Rattle.steps.proofs.opens_inside.Goals as goal

pub returns-then-after_escape : goal.returns-then-after_escape
returns-then-after_escape c =
    elim c.if-depth-ne0.branch [ then-depth-ne0 w ↦ inside_some c.args.depth c.args.waiting c.args.byte w.if-depth-ne0.true (sym w.after_escape.ensures ∙ sym w.value-is ∙ c.if-after_escape.true) | else-depth-ne0 w ↦ false_true (sym (none_run c.args.depth w.if-depth-ne0.false) ∙ sym w.value-is ∙ c.if-after_escape.true) ]

pub returns-else-after_escape : goal.returns-else-after_escape
returns-else-after_escape c =
    elim c.if-depth-ne0.branch [ then-depth-ne0 w ↦ c.if-after_escape.false ∙ inside_some c.args.depth c.args.waiting c.args.byte w.if-depth-ne0.true (sym w.after_escape.ensures ∙ sym w.value-is ∙ c.if-after_escape.false) | else-depth-ne0 w ↦ w.value-is ∙ none_run c.args.depth w.if-depth-ne0.false ∙ inside_none c.args.depth c.args.waiting c.args.byte w.if-depth-ne0.false ]

use Rattle.text_runs.proofs.Prelude.{sym, ◌∙◌}
use Rattle.line_runs.proofs.CharacterLaws.{type_spacing, type_accent}
use Rattle.text_runs.proofs.typed_on.Goals as goal

pub returns-then-spaces : goal.returns-then-spaces
returns-then-spaces c =
    type_spacing _ _ c.args.hand.moved c.args.hand.text _ (sym c.spaces.ensures ∙ c.if-spaces.true) c.advanced-text.ensures

pub returns-else-spaces : goal.returns-else-spaces
returns-else-spaces c =
    type_accent _ _ c.args.hand.moved c.args.hand.text (sym c.spaces.ensures ∙ c.if-spaces.false)

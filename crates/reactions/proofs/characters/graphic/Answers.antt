use Rattle.rules.specs.Coding.{graphic}
use Rattle.reactions.specs.Prelude.{◌∙◌}
use Rattle.reactions.proofs.SetLaws.{character_acts}
use Rattle.reactions.proofs.characters.graphic.Goals as goal

pub returns-in-Characters : goal.returns-in-Characters
unfolding graphic
returns-in-Characters c =
    λ s f st. rw c.in-Characters.is (c.act.ensures s f st ∙ character_acts _ _ s f st c.character.result c.character.ensures)

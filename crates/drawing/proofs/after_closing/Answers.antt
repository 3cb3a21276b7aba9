use Rattle.std.proofs.Common.{inl, inr}
use Rattle.figures.proofs.Carrying.{puts_carried}
use Rattle.drawing.specs.After.{after_closing}
use Rattle.drawing.proofs.after_closing.Goals as goal

pub returns-in-Control : goal.returns-in-Control
unfolding after_closing
returns-in-Control c =
    puts_carried _ _ _ _ _ _ (elim c.in-Control.is [ inl e ↦ rw e | inr e ↦ rw e ]) c.put_control.ensures

pub returns-in-Format : goal.returns-in-Format
unfolding after_closing
returns-in-Format c =
    puts_carried _ _ _ _ _ _ (rw (c.in-Format.is, c.format-drawing.ensures)) c.put_control-at.ensures

pub returns-in-Reset : goal.returns-in-Reset
unfolding after_closing
returns-in-Reset c =
    puts_carried _ _ _ _ _ _ (rw (c.in-Reset.is, c.reset_text-drawing.ensures, c.reset_look.ensures)) c.put_control-at-in-Reset.ensures

pub returns-in-Character : goal.returns-in-Character
unfolding after_closing
returns-in-Character c =
    puts_carried _ _ _ _ _ _ (rw (c.in-Character.is, c.typed-drawing.ensures, c.character-written.ensures, c.set_number.ensures)) c.put_one.ensures

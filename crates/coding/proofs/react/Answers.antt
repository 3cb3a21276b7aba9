use Rattle.coding.specs.Prelude.{refl, ◌∙◌}
use Rattle.rules.specs.Ranges.{waiting_fits}
use Rattle.coding.proofs.ReactLaws.{is_name, read_by_itself, inside}
use Rattle.std.proofs.Common.{rules}
use Rattle.coding.proofs.react.Goals as goal

pub in_body-requires : goal.in_body-requires
unfolding waiting_fits
in_body-requires c =
    (search rules, is_name _ (rw c.in-Body.is at c.requires.1))

pub in_body_escape-requires : goal.in_body_escape-requires
unfolding waiting_fits
in_body_escape-requires c =
    (search rules, is_name _ (rw c.in-BodyEscape.is at c.requires.1))

pub returns-in-Nothing-clause-reaction : goal.returns-in-Nothing-clause-reaction
returns-in-Nothing-clause-reaction c =
    λ sets h. c.read_from.ensures sets c.args.waiting _ _ ∙ read_by_itself _ _ _ _ _ _ c.in-Nothing.is h ∙ inside _ _ _ _ _ c.if-byte-gt127.false _ refl

-- The sets after an action and after an effect
use Rattle.std.specs.Prelude.{◌≡◌, ◌∷◌}
use Rattle.reactions.specs.Prelude.{refl, List, [], ℕ, eqb}
use types.Run.{OneOf, miss}
use denote.Enum.Declared.{tag_of}
use Rattle.reactions.specs.contracts.Effect.{the_type as the-effect}
use Rattle.rules.proofs.Bools.{pick_all}
use Rattle.rules.specs.declared.Action.{Action}
use Rattle.rules.specs.declared.Control.TheVariants.{Positions}
use Rattle.rules.specs.declared.Positioning.{Positioning}
use Rattle.rules.specs.declared.Positioning.TheVariants.{Aps, Nsr}
use Rattle.rules.specs.declared.Repertoire.{Repertoire}
use Rattle.rules.specs.declared.Repertoire.TheVariants.{Primary, Supplementary, Mosaic, Drcs}
use Rattle.rules.specs.declared.Set.TheVariants.{Characters}
use Rattle.rules.specs.declared.Sets.{Sets}
use Rattle.rules.specs.declared.Waiting.TheVariants.{Nothing, Row}
use Rattle.rules.specs.Coding.{React, positioning_action, control, character, graphic}
use Rattle.reactions.specs.View.{coding_of, reset_sets, sets_after}
use Rattle.reactions.specs.declared.Effect.{Effect}
use Rattle.reactions.specs.declared.Effect.TheVariants.{Calls, Acts, Uses, Designates}

-- A character's action resets no sets
character_keeps : (x : Repertoire) (b : ℕ) (s : Sets) → reset_sets (character x b) s ≡ s
unfolding character
character_keeps Primary b s = pick_all (λ a. reset_sets a s ≡ s) (eqb b 127) refl refl
character_keeps Supplementary b s = pick_all (λ a. reset_sets a s ≡ s) (eqb b 127) refl refl
character_keeps Mosaic b s = refl
character_keeps Drcs b s = refl

pub character_acts : (x : Repertoire) (b : ℕ) (s : Sets) (f st : List ℕ) (a : Action) → a ≡ character x b
    → React (coding_of (reset_sets a s) Nothing f) st a ≡ graphic (Characters x) (coding_of s Nothing f) st b
unfolding graphic
character_acts x b s f st a e = rw (e, character_keeps x b s) refl

-- APS and NSR: their action, and a row byte is due
pub row_due : (x : Positioning) (b : ℕ) (s : Sets) (f st : List ℕ)
    → React (coding_of (reset_sets (positioning_action x b) s) (Row x) f) st (positioning_action x b)
    ≡ control (Positions x) (coding_of s Nothing f) st b
unfolding control
row_due Aps b s f st = refl
row_due Nsr b s f st = refl

-- The sets after an effect: a call leaves them
abbrev no_change : List ℕ
no_change = 0 ∷ []

pub others_leave : (e : Effect) (s : Sets) → OneOf no_change (tag_of the-effect e) → s ≡ sets_after e s
others_leave (Calls n) s h = refl
others_leave (Acts a) s h = absurd (miss no_change 1 tt h)
others_leave (Uses e) s h = absurd (miss no_change 2 tt h)
others_leave (Designates e x) s h = absurd (miss no_change 3 tt h)

-- Runs of the bytes that open and end a definition.
use Rattle.std.specs.Prelude.{◌≡◌, ◌+◌}
use Rattle.coding_runs.specs.Prelude.{refl, ap, ◌∙◌, List, ℕ, arith, get_or}
use Rattle.rules.specs.declared.Action.TheVariants.{Idle as Idle·action}
use Rattle.rules.specs.declared.Coding.{Coding}
use Rattle.rules.specs.declared.Definition.{Definition}
use Rattle.rules.specs.declared.Sets.{Sets}
use Rattle.rules.specs.declared.Waiting.TheVariants.{Nothing, Escape, Name, Body, BodyEscape}
use Rattle.rules.specs.Numbers.{esc}
use Rattle.rules.specs.Coding.{React, in_body, inner_of, in_body_escape, final_of, escape, controls, control, class_of, react_to, react}
use Rattle.store.specs.Each.{none}
use Rattle.store.proofs.EachLaws.{each_on}
use Rattle.coding_runs.specs.Idle.{coded, Idle}
use Rattle.reactions.specs.View.{coding_of}

-- The reactions to ESC 4/0 where nothing is waited for, and to ESC 4/5 in a body
module _ (s : Sets) (f st : List ℕ) where
  escapes : react (coding_of s Nothing f) st esc ≡ React (coding_of s Escape f) st Idle·action
  unfolding react react_to class_of controls control
  escapes = refl

  opens : react (coding_of s Escape f) st 64 ≡ React (coding_of s Name f) st Idle·action
  unfolding react react_to class_of final_of escape
  opens = refl

  module _ (d : Definition) where
    body_escapes : react (coding_of s (Body d) f) st esc ≡ React (coding_of s (BodyEscape d) f) st Idle·action
    unfolding react react_to in_body
    body_escapes = refl

    ends : react (coding_of s (BodyEscape d) f) st 69 ≡ React (coding_of s Nothing f) st Idle·action
    unfolding react react_to inner_of in_body_escape
    ends = refl

-- Two idle bytes: ESC 4/0 and ESC 4/5 among them
module _ (bytes : List ℕ) (from : ℕ) where
  two_idle : (c c₁ c₂ : Coding) (st : List ℕ) (a b : ℕ) → get_or bytes from 0 ≡ a → get_or bytes (from + 1) 0 ≡ b
      → react c st a ≡ React c₁ st Idle·action → react c₁ st b ≡ React c₂ st Idle·action → Idle bytes from (coded c st) 2 (coded c₂ st)
  two_idle c c₁ c₂ st a b ea eb e₁ e₂ =
      let z : from + 0 ≡ from = omega arith in
      each_on bytes from 1 (coded c₁ st) (coded c₂ st)
      (each_on bytes from 0 (coded c st) (coded c₁ st) none (ap (λ (i : ℕ). react c st (get_or bytes i 0)) z ∙ ap (react c st) ea ∙ e₁))
      (ap (react c₁ st) eb ∙ e₂)

  module _ (s : Sets) (f st : List ℕ) (escaped : get_or bytes from 0 ≡ esc) where
    pub opening_idle : get_or bytes (from + 1) 0 ≡ 64 → Idle bytes from (coded (coding_of s Nothing f) st) 2 (coded (coding_of s Name f) st)
    opening_idle e = two_idle _ _ _ st esc 64 escaped e (escapes s f st) (opens s f st)

    pub end_idle : (d : Definition) → get_or bytes (from + 1) 0 ≡ 69 → Idle bytes from (coded (coding_of s (Body d) f) st) 2 (coded (coding_of s Nothing f) st)
    end_idle d e = two_idle _ _ _ st esc 69 escaped e (body_escapes s f st d) (ends s f st d)

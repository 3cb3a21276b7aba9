-- Bytes that ask an action of drawing.
use Rattle.std.specs.Prelude.{◌≤◌, ◌<◌, ◌≡◌}
use Rattle.drawing_runs.specs.Prelude.{ℕ, arith, refl, ap, ◌∙◌, List, get_or, lt-ltb, le-ltb}
use Rattle.rules.specs.declared.Action.{Action}
use Rattle.rules.specs.declared.Action.TheVariants.{Control as Control·action, Format, Opcode, Data}
use Rattle.rules.specs.declared.Bodies.{Bodies}
use Rattle.rules.specs.declared.Coding.{Coding}
use Rattle.rules.specs.declared.Control.{Control}
use Rattle.rules.specs.declared.Control.TheVariants.{Ignored, Recorded, Formats}
use Rattle.rules.specs.declared.Effector.{Effector}
use Rattle.rules.specs.declared.Set.{Set}
use Rattle.rules.specs.declared.Set.TheVariants.{Pdi}
use Rattle.rules.specs.Coding.{React, controls, control, graphic}
use Rattle.rules.specs.Step.{bodies_after}
use Rattle.rules.proofs.Bools.{pick_yes, pick_no}
use Rattle.rules.proofs.Reacting.{from_set, from_controls}
use Rattle.drawing_runs.specs.Run.{ActsAs}

pub graphic_acts : (s : Set) (b : ℕ) (a : Action) → 32 ≤ b → b ≤ 127 → ((c : Coding) (st : List ℕ) → graphic s c st b ≡ React c st a)
    → ((y : Bodies) → bodies_after a y ≡ y) → ActsAs s b a
graphic_acts s b a least most g k =
    record { asks = λ c st w u. from_set b most c st w least ∙ ap (λ (x : Set). graphic x c st b) u ∙ g c st; keeps = k }

-- "In PDI, 2/0 to 3/15 closes the open command and opens another; 4/0 to 7/15 is data"
pub data_acts : (b : ℕ) → 64 ≤ b → b ≤ 127 → ActsAs Pdi b (Data b)
unfolding graphic
data_acts b least most =
    graphic_acts Pdi b (Data b) (omega arith) most (λ c st. ap (React c st) (pick_no _ _ (le-ltb b 64 least))) (λ y. refl)

pub opcode_acts : (b : ℕ) → 32 ≤ b → b ≤ 63 → ActsAs Pdi b (Opcode b)
unfolding graphic
opcode_acts b least most =
    graphic_acts Pdi b (Opcode b) least (omega arith) (λ c st. ap (React c st) (pick_yes _ _ (lt-ltb b 64 (omega arith)))) (λ y. refl)

-- Recorded controls, whatever set is in use
pub control_acts : (s : Set) (b : ℕ) → b < 32 → get_or controls b Ignored ≡ Recorded → ActsAs s b (Control·action b)
unfolding control
control_acts s b h e =
    record { asks = λ c st w u. from_controls b (omega arith) c st w h ∙ ap (λ (x : Control). control x c st b) e; keeps = λ y. refl }

-- Format effectors
pub format_acts : (s : Set) (f : Effector) (b : ℕ) → b < 32 → get_or controls b Ignored ≡ Formats f → ActsAs s b (Format f b)
unfolding control
format_acts s f b h e =
    record { asks = λ c st w u. from_controls b (omega arith) c st w h ∙ ap (λ (x : Control). control x c st b) e; keeps = λ y. refl }

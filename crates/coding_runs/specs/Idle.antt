-- Idle bytes: those that ask nothing of drawing and call no macro, one after the other
use Rattle.std.specs.Prelude.{◌≡◌}
use Rattle.coding_runs.specs.Prelude.{ℕ, Bool, true, false, List}
use Rattle.rules.specs.declared.Action.{Action}
use Rattle.rules.specs.declared.Action.TheVariants.{Idle as Idle·action, Close, Control, Cancel, Format, Reset, Position, Character, Opcode, Data}
use Rattle.rules.specs.declared.Coding.{Coding}
use Rattle.rules.specs.Coding.{React, react}
use Rattle.store.specs.Each.{Each}
use Rattle.reactions.specs.declared.Effect.{Effect}
use Rattle.reactions.specs.declared.Effect.TheVariants.{Calls, Acts, Uses, Designates}

-- The state of the coding layer, and the store
pub record Coded : Type 0 where
  pub coding : Coding
  pub store : List ℕ

abbrev pub coded : Coding → List ℕ → Coded
coded c st = record { coding = c; store = st }

-- An idle byte, and so many from a place on, each a step of its own
abbrev pub IdleByte : ℕ → Coded → Coded → Type 0
IdleByte b y z = react y.coding y.store b ≡ React z.coding z.store Idle·action

abbrev pub Idle : List ℕ → ℕ → Coded → ℕ → Coded → Type 0
Idle bytes from x n y = Each IdleByte bytes from x n y

-- An effect of the code that asks nothing of drawing
unfoldable pub idle_action : Action → Bool
idle_action Idle·action = true
idle_action Close = false
idle_action (Control b) = false
idle_action (Cancel b) = false
idle_action (Format f b) = false
idle_action (Reset b) = false
idle_action (Position x r c) = false
idle_action (Character x b) = false
idle_action (Opcode b) = false
idle_action (Data b) = false

unfoldable pub idle_effect : Effect → Bool
idle_effect (Calls n) = false
idle_effect (Acts a) = idle_action a
idle_effect (Uses e) = true
idle_effect (Designates e x) = true

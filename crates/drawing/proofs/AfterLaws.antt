-- What follows closing, carried out.
use Rattle.std.specs.Prelude.{◌≡◌}
use Rattle.std.proofs.Common.{ℕ, refl, ap, List}
use mathlib.Core.List.{append-nil}
use Rattle.rules.specs.declared.Action.{Action}
use Rattle.rules.specs.declared.Action.TheVariants.{Idle, Close, Control, Cancel, Format, Reset, Position, Character, Opcode, Data}
use Rattle.rules.specs.declared.Drawing.{Drawing}
use Rattle.rules.specs.declared.Record.{Record}
use Rattle.rules.specs.declared.Positioning.{Positioning}
use Rattle.rules.specs.Drawing.{Outcome, NotDrawn, Draw, and_then, open_command, close, act}
use Rattle.figures.proofs.Carrying.{Draws}
use Rattle.drawing.specs.After.{after_closing}

-- None of them refuses
pub after_draws : (a : Action) (d : Drawing) → Draws (after_closing a d)
unfolding after_closing open_command
after_draws Idle d = tt
after_draws Close d = tt
after_draws (Control b) d = tt
after_draws (Cancel b) d = tt
after_draws (Format f b) d = tt
after_draws (Reset b) d = tt
after_draws (Position x r c) d = tt
after_draws (Character x b) d = tt
after_draws (Opcode o) d = tt
after_draws (Data b) d = tt

-- Closing alone is closing with nothing after it
alone : (o : Outcome) → and_then o (after_closing Close) ≡ o
unfolding and_then after_closing
alone (NotDrawn r) = refl
alone (Draw d rs) = ap (λ (qs : List Record). Draw d qs) (append-nil rs)

-- The actions that close the open command
pub closes_first : (a : Action) (d : Drawing) → (a ≡ Idle → ⊥) → ((x : Positioning) (r c : ℕ) → a ≡ Position x r c → ⊥) → ((b : ℕ) → a ≡ Data b → ⊥)
    → and_then (close d) (after_closing a) ≡ act a d
unfolding act after_closing
closes_first Idle d i p n = absurd (i refl)
closes_first Close d i p n = alone (close d)
closes_first (Control b) d i p n = refl
closes_first (Cancel b) d i p n = refl
closes_first (Format f b) d i p n = refl
closes_first (Reset b) d i p n = refl
closes_first (Position x r c) d i p n = absurd (p x r c refl)
closes_first (Character x b) d i p n = refl
closes_first (Opcode o) d i p n = refl
closes_first (Data b) d i p n = absurd (n b refl)

-- What an action does to the state that closing leaves, where it closes the open command
use Rattle.std.specs.Prelude.{[], ◌∷◌}
use Rattle.rules.specs.declared.Action.{Action}
use Rattle.rules.specs.declared.Action.TheVariants.{Idle, Close, Control, Cancel, Format, Reset, Position, Character, Opcode, Data}
use Rattle.rules.specs.declared.Drawing.{Drawing}
use Rattle.rules.specs.Record.{character_record, set_number}
use Rattle.rules.specs.Text.{formatted, typed}
use Rattle.rules.specs.Drawing.{with_pen, control_record, reset, Outcome, Draw, open_command}

unfoldable pub after_closing : Action → Drawing → Outcome
after_closing Idle d = Draw d []
after_closing Close d = Draw d []
after_closing (Control b) d = Draw d (control_record b d ∷ [])
after_closing (Cancel b) d = Draw d (control_record b d ∷ [])
after_closing (Format f b) d = Draw (with_pen (formatted f d.pen) d) (control_record b d ∷ [])
after_closing (Reset b) d = Draw (reset d) (control_record b d ∷ [])
after_closing (Position x r c) d = Draw d []
after_closing (Character x b) d = Draw (with_pen (typed x b d.pen) d) (character_record d.look (set_number x) b d.pen.text ∷ [])
after_closing (Opcode o) d = open_command o d
after_closing (Data b) d = Draw d []

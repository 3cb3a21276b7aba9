use Rattle.coded_turns.specs.Prelude.{arith, sym, ◌∙◌}
use Rattle.coded_turns.specs.Walk.{none}
use Rattle.coded_turns.proofs.coded.names_piece.Goals as goal

pub call_piece-requires : goal.call_piece-requires
call_piece-requires c =
    (c.requires.0, c.requires.1, sym c.set_in_use.ensures ∙ c.in-Macro.is, c.requires.2, c.requires.3, c.requires.4)

pub returns-in-Macro : goal.returns-in-Macro
returns-in-Macro c = record { walk = c.call_piece.ensures.walk; most = c.call_piece.ensures.most; still = c.call_piece.ensures.still }

pub returns-in_default : goal.returns-in_default
returns-in_default c = record { walk = λ budget d st out few room. none; most = omega arith; still = λ h. c.requires.0 }

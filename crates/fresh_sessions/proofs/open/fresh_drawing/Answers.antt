use Rattle.fresh_sessions.proofs.open.fresh_drawing.Goals as goal

pub returns : goal.returns
returns c = simp (c.fresh_look.ensures, c.new_command.ensures, c.fresh_text.ensures)

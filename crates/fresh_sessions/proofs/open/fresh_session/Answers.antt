use Rattle.fresh_sessions.proofs.open.fresh_session.Goals as goal

pub returns : goal.returns
returns c = rw (c.fresh_drawing.ensures, c.fresh_sets.ensures)

use Rattle.std.proofs.Common.{arith}
use Rattle.figures.proofs.Carrying.{puts_carried}
use Rattle.command_steps.proofs.OpeningLaws.{closed, next_control}
use Rattle.command_steps.proofs.opening.mark_next.Goals as goal

pub returns-clause-drawn : goal.returns-clause-drawn
returns-clause-drawn c =
    λ l t o m k z. next_control _ c.finish-done.result.point c.finish-done.result.moved t o _ l m _ _ _ _ _ (closed _ c.finish-done.result.point c.finish-done.result.moved t o _ l m _ _ _ _ _ _ c.requires.1 c.role_due-role.ensures z (omega (arith, c.requires)) (puts_carried _ _ _ _ _ _ (c.finish-done.ensures.drawn l t o m) (c.put_figure-at.ensures.put l k))) (omega (arith, c.requires)) c.finish-done.ensures.still _ _ c.requires.0 c.new_command.ensures (c.put_mark.ensures l k)

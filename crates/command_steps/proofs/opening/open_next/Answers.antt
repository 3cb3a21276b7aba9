use Rattle.command_steps.specs.Prelude.{arith, sym, ap, ◌∙◌}
use Rattle.rules.specs.Drawing.{row_of}
use Rattle.figures.proofs.Carrying.{puts_carried}
use Rattle.command_steps.proofs.OpeningLaws.{closed, next_opened}
use Rattle.command_steps.proofs.opening.open_next.Goals as goal

pub returns : goal.returns
returns c =
    ((λ l t o m k z. next_opened _ c.finish-done.result.point c.finish-done.result.moved t o _ l m _ _ _ _ _ (closed _ c.finish-done.result.point c.finish-done.result.moved t o _ l m _ _ _ _ _ _ c.requires.0 c.role_due-role.ensures z (omega (arith, c.requires)) (puts_carried _ _ _ _ _ _ (c.finish-done.ensures.drawn l t o m) (c.put_figure-at.ensures.put l k))) (omega (arith, c.requires)) c.finish-done.ensures.still _ _ _ c.if-byte-lt32.false (c.open_at-opened.ensures.drawn l _ _ _ m k)), c.finish-done.ensures.still, c.requires.3 ∙ ap row_of (sym c.open_at-opened.ensures.opcode), omega (arith, c.put_figure-at.ensures.most, c.open_at-opened.ensures.most))

use Rattle.std.proofs.Common.{ℕ, List, ap, ◌∙◌}
use Rattle.records.specs.Bytes.{overwrite}
use Rattle.figures.proofs.Carrying.{puts_none, puts_one}
use Rattle.outlines.proofs.put_move.Goals as goal

pub returns-then-drawn-clause-put : goal.returns-then-drawn-clause-put
returns-then-drawn-clause-put c = λ x e.
    rw c.if-drawn.true (puts_one x _ _ _ (c.put_words.ensures ∙ ap (λ (bs : List ℕ). overwrite c.args.at bs c.args.out.now) e))

pub returns-clause-put : goal.returns-clause-put
returns-clause-put c = λ x e. rw c.if-drawn.false (puts_none _ _)

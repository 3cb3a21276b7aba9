use Rattle.std.proofs.Common.{ap, ◌∙◌, List, ℕ}
use Rattle.records.specs.Bytes.{overwrite}
use Rattle.commands.proofs.ActionLaws.{mark_bytes}
use Rattle.commands.proofs.opening.put_mark.Goals as goal

pub returns : goal.returns
returns c =
    λ l k. c.put_words.ensures ∙ ap (λ (bs : List ℕ). overwrite c.args.at bs c.args.out.now) (mark_bytes _ _ _ l _ _ _ _ k c.with_kind.ensures c.with_code-head.ensures)

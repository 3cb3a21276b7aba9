use Rattle.line_runs.proofs.CharacterLaws.{text_closes, none_closes}
use Rattle.text_runs.proofs.closed_by.Goals as goal

pub returns-then-command-eq-TEXT : goal.returns-then-command-eq-TEXT
returns-then-command-eq-TEXT c =
    text_closes c.args.command c.args.text c.closed_text-text.result c.if-command-eq-TEXT.true c.closed_text-text.ensures

pub returns-else-command-eq-TEXT : goal.returns-else-command-eq-TEXT
returns-else-command-eq-TEXT c =
    none_closes c.args.command c.args.text c.if-command-eq-TEXT.false

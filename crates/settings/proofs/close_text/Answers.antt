use Rattle.std.proofs.Common.{sym, ◌∙◌}
use Rattle.settings.proofs.close_text.Goals as goal

pub returns : goal.returns
returns c =
    let pen· = c.args.pen in
    c.aligned.ensures ∙ sym (c.closed_text.ensures pen·.point pen·.operand)

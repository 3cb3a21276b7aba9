use Rattle.command_runs.proofs.Prelude.{sym, ◌∙◌, ltb-true}
use Rattle.rules.proofs.Bools.{false_true}
use Rattle.command_runs.proofs.CommandLaws.{control_asked, opcode_asked}
use Rattle.command_runs.proofs.opens.Goals as goal

pub returns-then-finishes_apart : goal.returns-then-finishes_apart
returns-then-finishes_apart c = λ h. false_true h

pub returns-then-byte-lt32 : goal.returns-then-byte-lt32
returns-then-byte-lt32 c =
    λ h. (sym c.finishes_apart.ensures ∙ c.if-finishes_apart.false, control_asked _ (c.is_recorded.ensures h).0 (c.is_recorded.ensures h).1)

pub returns : goal.returns
returns c =
    λ h. (sym c.finishes_apart.ensures ∙ c.if-finishes_apart.false, opcode_asked _ c.if-byte-lt32.false (ltb-true _ 64 h))

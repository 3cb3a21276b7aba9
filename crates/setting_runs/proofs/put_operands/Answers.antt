use Rattle.setting_runs.specs.Prelude.{arith, refl, sym, ap, subst, ◌∙◌}
use Rattle.rules.specs.declared.Command.{Command}
use Rattle.rules.specs.declared.Text.{Text}
use Rattle.drawing_runs.proofs.RunLaws.{rest_length}
use Rattle.setting_runs.specs.Settings.{SetsTo}
use Rattle.setting_runs.proofs.SettingLaws.{none_set, sets_on, sets_dropped, command_on}
use Rattle.setting_runs.proofs.put_operands.Goals as goal

pub loop-taken-init : goal.loop-taken-init
loop-taken-init c =
    (c.requires.0, omega arith, λ l k. none_set _ _ c.args.command l _ _ refl)

pub returns : goal.returns
returns c = record {
  set = subst (λ (u : Text). SetsTo c.args.bytes.now 0 c.args.command c.args.look c.args.text.now c.loop-taken.count c.loop-taken.command u)
      (sym (c.put_operand.ensures.kept c.in_default.is)) (c.loop-taken.invariant.2 c.args.look refl);
  most = c.loop-taken.invariant.1;
}

pub overflow_add-count : goal.overflow_add-count
overflow_add-count c =
    omega (arith, (c.put_operand.ensures.most _ c.in-Some.is).1, rest_length c.args.bytes.now c.loop-taken.count)

pub loop-taken-smaller : goal.loop-taken-smaller
loop-taken-smaller c =
    let most = c.put_operand.ensures.most _ c.in-Some.is in
    omega (arith, most.0, most.1, c.loop-taken.invariant.1, rest_length c.args.bytes.now c.loop-taken.count)

pub loop-taken-preserved : goal.loop-taken-preserved
loop-taken-preserved c =
    let most = c.put_operand.ensures.most _ c.in-Some.is in
    let next = c.with_due-command.ensures ∙ command_on c.in-Some.taken c.loop-taken.command (λ z. absurd (omega (arith, z, most.0))) in (
      ap (λ (d : Command). d.opcode) c.with_due-command.ensures ∙ c.loop-taken.invariant.0,
      omega (arith, most.1, c.loop-taken.invariant.1, rest_length c.args.bytes.now c.loop-taken.count),
      λ l k. sets_on c.args.bytes.now 0 l c.args.command c.loop-taken.command _ _ _ _ c.loop-taken.count _ next (c.loop-taken.invariant.2 l k)
          (sets_dropped c.args.bytes.now c.loop-taken.count c.loop-taken.command _ l _ _ _ (c.put_operand.ensures.set _ c.in-Some.is c.loop-taken.command l c.loop-taken.invariant.0 refl k)),
    )

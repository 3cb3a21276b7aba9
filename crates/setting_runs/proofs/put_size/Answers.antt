use Rattle.setting_runs.specs.Prelude.{ℕ, arith, refl, sym, ap, subst, ◌∙◌, take}
use Rattle.std.proofs.Common.{length-take}
use Rattle.std.specs.Prelude.{Option, unwrap_or}
use Rattle.rules.specs.declared.Domain.{Domain}
use Rattle.rules.specs.Text.{with_field}
use Rattle.operands.specs.Data.{whole_of}
use Rattle.rules.proofs.DrawingRanges.{multi_range}
use Rattle.setting_runs.specs.Settings.{command_after, SetsTo}
use Rattle.setting_runs.proofs.SettingLaws.{field_set}
use Rattle.setting_runs.proofs.put_size.Goals as goal

pub whole_point-requires : goal.whole_point-requires
whole_point-requires c =
    omega (arith, length-take c.args.domain.multi c.args.bytes.now, (multi_range c.args.domain c.requires).1)

pub returns-clause-set : goal.returns-clause-set
returns-clause-set c =
    let r = multi_range c.args.domain c.requires in
    let n = c.args.domain.multi in
    λ k s d l e h g. subst (λ (j : ℕ). SetsTo c.args.bytes.now 0 d l c.args.text.now j (command_after j d) (with_field c.in_ok-text.field-0 c.args.text.now)) (ap (λ (o : Option ℕ). unwrap_or o 0) s)
    (field_set c.args.bytes.now 0 d l _ _ n _ e h (ap (λ (o : Domain). o.multi) g) r.0 r.1 (omega (arith, c.if-bytes-n.false)) (ap (λ (o : Domain). whole_of o.three (take n c.args.bytes.now)) g ∙ sym c.whole_point.ensures ∙ c.in_ok-text.was) refl)

use Rattle.coding_runs.specs.Prelude.{sym, ◌∙◌, arith, ℕ}
use Rattle.store.specs.Each.{none}
use Rattle.store.proofs.EachLaws.{then_byte, then_part}
use Rattle.coding_runs.proofs.IdleLaws.{idle_fits, idle_still, idle_reacts, busy_keeps}
use Rattle.std.proofs.Common.{rules, length-take}
use Rattle.coding_runs.proofs.run_idle.Goals as goal

pub loop-waiting-init : goal.loop-waiting-init
loop-waiting-init c = (omega arith, none)

pub run_definition-defined-requires : goal.run_definition-defined-requires
run_definition-defined-requires c =
    (search rules, idle_fits _ _ _ _ _ c.loop-waiting.invariant.1 c.requires.1)

pub loop-waiting-preserved-then-defined-gt0 : goal.loop-waiting-preserved-then-defined-gt0
loop-waiting-preserved-then-defined-gt0 c = (
  omega (arith, c.run_definition-defined.ensures.most, length-take {A = ℕ}),
  then_part _ _ _ _ c.loop-waiting.invariant.1 _ _ (omega (arith, c.run_definition-defined.ensures.most, length-take {A = ℕ})) (c.run_definition-defined.ensures.ran c.loop-waiting.sets),
)

pub returns-then-count-bytes-clause-ran : goal.returns-then-count-bytes-clause-ran
returns-then-count-bytes-clause-ran c =
    idle_still _ _ 0 0 _ _ _ _ _ _ _ _ _ _ c.if-defined-gt0.false (c.run_definition-defined.ensures.ran c.loop-waiting.sets) c.loop-waiting.invariant.1

pub react-requires : goal.react-requires
react-requires c =
    (search rules, idle_fits _ _ _ _ _ c.loop-waiting.invariant.1 c.requires.1)

pub returns-in_default-clause-ran : goal.returns-in_default-clause-ran
returns-in_default-clause-ran c =
    let ran = idle_still _ _ 0 0 _ _ _ _ _ _ _ _ _ _ c.if-defined-gt0.false (c.run_definition-defined.ensures.ran c.loop-waiting.sets) c.loop-waiting.invariant.1 in
    rw (c.in_default.ensures.refused.0, c.in_default.ensures.refused.1) ran

pub returns-then-not-is_idle-clause-ran : goal.returns-then-not-is_idle-clause-ran
returns-then-not-is_idle-clause-ran c =
    let ran = idle_still _ _ 0 0 _ _ _ _ _ _ _ _ _ _ c.if-defined-gt0.false (c.run_definition-defined.ensures.ran c.loop-waiting.sets) c.loop-waiting.invariant.1 in
    let kept = busy_keeps _ _ _ _ _ c.in-Ok.reacted _ _ (c.in-Ok.ensures.reaction c.loop-waiting.sets c.set_read-set.ensures) (sym c.is_idle.ensures ∙ c.if-not-is_idle.true) c.in-Ok.ensures.kept in
    rw (kept.0, kept.1) ran

pub loop-waiting-preserved : goal.loop-waiting-preserved
loop-waiting-preserved c =
    let ran = idle_still _ _ 0 0 _ _ _ _ _ _ _ _ _ _ c.if-defined-gt0.false (c.run_definition-defined.ensures.ran c.loop-waiting.sets) c.loop-waiting.invariant.1 in
    let idle = idle_reacts _ _ _ _ _ c.in-Ok.reacted _ _ (c.in-Ok.ensures.reaction c.loop-waiting.sets c.set_read-set.ensures) (sym c.is_idle.ensures ∙ c.if-not-is_idle.false) in
    (omega arith, rw c.sets_after-sets.ensures (then_byte _ _ _ _ ran idle))

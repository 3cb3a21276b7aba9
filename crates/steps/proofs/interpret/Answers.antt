use Rattle.steps.proofs.StepLaws.{ends_due, byte_inside, byte_refused, byte_calls, byte_acts, byte_idle}
use Rattle.steps.specs.View.{left_of}
use Rattle.coding.proofs.EffectLaws.{call_name}
use Rattle.reactions.specs.View.{coding_of}
use Rattle.steps.specs.Prelude.{refl, sym, ◌∙◌, inl, inr}
use Rattle.steps.proofs.interpret.Goals as goal

pub returns-then-opens_inside : goal.returns-then-opens_inside
returns-then-opens_inside c = record { left = λ budget d out. byte_inside budget c.args.progress c.args.cursors.now c.args.firsts.now d c.args.store.now out c.args.onward.cursor c.args.byte c.ends.result c.ends.ensures (sym c.opens_inside.ensures ∙ c.if-opens_inside.true); due = ends_due c.args.progress c.args.progress c.ends.result _ c.ends.ensures }

pub returns-in-Err : goal.returns-in-Err
returns-in-Err c = record { left = λ budget d out. byte_refused budget c.args.progress c.args.cursors.now c.args.firsts.now d c.args.store.now out c.args.onward.cursor c.args.byte (sym c.opens_inside.ensures ∙ c.if-opens_inside.false) c.in-Err.refusal c.react.new.firsts c.react.new.store (c.in-Err.ensures.reaction _ c.set_read-set.ensures) c.in-Err.ensures.refused c.ends-in-Err.result c.ends-in-Err.ensures; due = ends_due c.args.progress c.args.progress c.ends-in-Err.result _ c.ends-in-Err.ensures }

pub call-requires : goal.call-requires
call-requires c =
    (c.requires.0, (call_name (coding_of c.args.progress.sets c.args.progress.waiting c.args.firsts.now) c.args.store.now c.args.byte c.in-Ok.reacted c.react.new.firsts c.react.new.store (c.in-Ok.ensures.reaction _ c.set_read-set.ensures) c.in-Calls.name c.in-Calls.is).1, c.in-Calls.is)

pub ask-requires : goal.ask-requires
ask-requires c =
    (c.requires.0, c.in-Acts.is)

pub returns-in-Calls : goal.returns-in-Calls
returns-in-Calls c = record { left = λ budget d out. byte_calls budget c.args.progress c.args.cursors.now c.args.firsts.now d c.args.store.now out c.args.onward.cursor c.args.byte (sym c.opens_inside.ensures ∙ c.if-opens_inside.false) c.in-Ok.reacted c.react.new.firsts c.react.new.store (c.in-Ok.ensures.reaction _ c.set_read-set.ensures) c.in-Calls.name c.in-Calls.is c.in-Ok.ensures.kept (left_of budget c.args.progress c.call.result c.call.new.cursors c.react.new.firsts d c.react.new.store out) (c.call.ensures.left budget d c.react.new.store out); due = c.call.ensures.due }

pub returns-in-Acts : goal.returns-in-Acts
returns-in-Acts c = record { left = λ budget d out. byte_acts budget c.args.progress c.args.cursors.now c.args.firsts.now d c.args.store.now out c.args.onward.cursor c.args.byte (sym c.opens_inside.ensures ∙ c.if-opens_inside.false) c.in-Ok.reacted c.react.new.firsts c.react.new.store (c.in-Ok.ensures.reaction _ c.set_read-set.ensures) c.in-Acts.action c.in-Acts.is (left_of budget c.args.progress c.ask.result c.ask.new.cursors c.react.new.firsts d c.react.new.store out) (c.ask.ensures.left budget d c.react.new.firsts c.react.new.store out); due = c.ask.ensures.due }

pub returns-in-Uses-clause-left : goal.returns-in-Uses-clause-left
returns-in-Uses-clause-left c = λ budget d out.
    let by = byte_idle budget c.args.progress c.args.cursors.now c.args.firsts.now d c.args.store.now out c.args.onward.cursor c.args.byte (sym c.opens_inside.ensures ∙ c.if-opens_inside.false) c.in-Ok.reacted c.react.new.firsts c.react.new.store (c.in-Ok.ensures.reaction _ c.set_read-set.ensures) in
    let left = left_of budget c.args.progress c.idle.result c.idle.new.cursors c.react.new.firsts d c.react.new.store out in
    let idles = c.idle.ensures.left budget d c.react.new.firsts c.react.new.store out in
    elim c.in-Uses.is [ inl e ↦ by _ e.1 refl left idles | inr e ↦ by _ e.2 refl left idles ]

use Rattle.turn_runs.specs.Prelude.{ℕ, arith, List, [], ap, ◌∙◌, subst, true}
use Rattle.rules.specs.declared.Set.TheVariants.{Pdi}
use Rattle.rules.specs.Text.{fresh_text}
use Rattle.pens.specs.declared.tips.Tip.{Tip}
use Rattle.drawing_runs.specs.Run.{none}
use Rattle.drawing_runs.specs.Strokes.{PassesTo}
use Rattle.turn_runs.proofs.DrewLaws.{passes_draws, draws_rest, rest_most, tip_fresh, run_within}
use Rattle.turn_runs.proofs.ProgressLaws.{run_still}
use Rattle.turn_runs.proofs.drawn.draw_pdi.Goals as goal

pub returns-then-not-none_begun : goal.returns-then-not-none_begun
returns-then-not-none_begun c = record { ran = (λ m. rw c.none_drawn.ensures none); most = omega (arith, ap (λ r. r.count) c.none_drawn.ensures) }

pub returns-then-lined-gt0 : goal.returns-then-lined-gt0
returns-then-lined-gt0 c = record { ran = passes_draws _ _ c.args.tip _ _ c.args.look _ _ (record { count = c.draw_strokes-lined.result.count; at = c.draw_strokes-lined.result.at; left = record { moved = true; point = c.draw_strokes-lined.result.point }; command = c.args.command }) _ c.draw_strokes-lined.ensures.ran c.tip_after.ensures _; most = c.draw_strokes-lined.ensures.most }

pub draw_next-next-requires : goal.draw_next-next-requires
draw_next-next-requires c =
    let fresh = c.none_begun.ensures.none c.if-not-none_begun.false in
    let run = c.run_commands-passed.ensures.ran c.args.tip.operand fresh c.none_begun.ensures.eight fresh_text [] in
    let none_left = ap (λ (x : Tip). x.operand.count) c.tip_after-tip.ensures ∙ tip_fresh c.run_commands-passed.result.count c.run_commands-passed.result.left.moved c.run_commands-passed.result.left.point c.args.tip fresh in
    (none_left, c.requires.0, run_within run (omega (arith, c.requires.2, c.draw_strokes-lined.auto.out)))

pub shape_of-out : goal.shape_of-out
shape_of-out c =
    c.draw_next-next.auto.out ∙ (c.run_commands-passed.auto.out ∙ c.draw_strokes-lined.auto.out)

pub returns : goal.returns
returns c = let fresh = c.none_begun.ensures.none c.if-not-none_begun.false in
    let still = run_still (c.draw_strokes-lined.ensures.ran fresh_text []) (omega (arith, c.if-lined-gt0.false)) in
    let passes = subst (λ (o : List ℕ). PassesTo c.args.bytes.now 0 c.args.tip.point c.args.tip.operand c.args.command c.args.look c.args.at o c.run_commands-passed.result c.run_commands-passed.new.out) still.3 (c.run_commands-passed.ensures.ran c.args.tip.operand fresh c.none_begun.ensures.eight) in
    record { ran = draws_rest Pdi c.args.bytes.now c.run_commands-passed.result.count _ c.args.text.now _ c.args.tip c.tip_after-tip.result c.args.command c.run_commands-passed.result.command c.args.look c.args.at c.run_commands-passed.result.at _ _ _ c.draw_next-next.result (passes_draws _ _ c.args.tip _ _ c.args.look _ _ c.run_commands-passed.result _ passes c.tip_after-tip.ensures c.args.text.now) c.draw_next-next.ensures.ran; most = rest_most c.args.bytes.now _ _ c.run_commands-passed.ensures.most c.draw_next-next.ensures.most }

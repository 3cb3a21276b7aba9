use Rattle.turn_runs.specs.Prelude.{arith, refl, ap}
use Rattle.drawing_runs.specs.Run.{none}
use Rattle.turn_runs.proofs.DrewLaws.{types_draws}
use Rattle.turn_runs.proofs.drawn.draw_text.Goals as goal

pub returns-then-not-closes_at_once : goal.returns-then-not-closes_at_once
returns-then-not-closes_at_once c = record { ran = (λ m. rw c.none_drawn.ensures none); most = omega (arith, ap (λ r. r.count) c.none_drawn.ensures) }

pub run_text-ran-requires : goal.run_text-ran-requires
run_text-ran-requires c =
    (c.closes_at_once.ensures c.if-not-closes_at_once.false, c.requires)

pub returns : goal.returns
returns c = record { ran = types_draws _ _ _ _ _ _ c.args.tip _ _ c.args.look _ _ c.run_text-ran.result _ c.catch_up.ensures refl c.tip_of.ensures c.run_text-ran.ensures.ran; most = c.run_text-ran.ensures.most }

use Rattle.coded_turns.specs.Prelude.{arith, refl}
use Rattle.coded_turns.proofs.ProgressLaws.{walk_calls, most_part}
use Rattle.bodies.proofs.CallLaws.{calls_part}
use Rattle.coded_turns.specs.Walk.{none}
use Rattle.coded_turns.proofs.coded.call_piece.Goals as goal

pub returns-then-count-eq0 : goal.returns-then-count-eq0
returns-then-count-eq0 c = record { walk = λ budget d st out few room. none; most = omega arith; still = λ h. c.requires.0 }

pub returns : goal.returns
returns c = let most = most_part c.args.piece.now c.args.progress.at c.args.to _ c.empty_calls-count.ensures.most in record { walk = λ budget d st out few room. walk_calls budget c.args.progress c.args.cursors.now c.args.firsts.now d st c.args.piece.now out c.requires.0 c.args.to c.requires.4 few room c.empty_calls-count.result _ c.if-count-eq0.false c.requires.1 c.requires.2 (calls_part _ _ _ _ _ most c.empty_calls-count.ensures.calls) (omega (arith, most, c.requires.3)) refl _ refl; most = omega (arith, most); still = λ h. absurd (omega (arith, h, c.if-count-eq0.false)) }

use Rattle.coded_turns.specs.Prelude.{ℕ, arith, ap}
use Rattle.progress.specs.Progress.{coded_on}
use Rattle.coded_turns.proofs.ProgressLaws.{walk_idle, most_part}
use Rattle.store.proofs.EachLaws.{each_part}
use Rattle.coded_turns.proofs.coded.idle_piece.Goals as goal

pub returns : goal.returns
returns c = let idled = c.run_idle-idled.result in let most = most_part c.args.piece.now c.args.progress.at c.args.to _ c.run_idle-idled.ensures.most in record { walk = λ budget cursors d out few room. walk_idle budget c.args.progress cursors c.args.firsts.now d c.args.store.now c.args.piece.now out c.requires.0 c.args.to c.requires.4 few room idled c.run_idle-idled.new.firsts c.run_idle-idled.new.store (each_part _ _ _ _ _ most c.run_idle-idled.ensures.ran) (omega (arith, most, c.requires.3)) _ (ap (λ (n : ℕ). coded_on idled.count n idled.sets idled.waiting c.args.progress) c.requires.0); most = omega (arith, most); still = λ h. c.requires.0 }

use Rattle.coded_turns.specs.Prelude.{arith, ap, ◌∙◌}
use Rattle.rules.specs.declared.Element.TheVariants.{G0, G1}
use Rattle.progress.specs.declared.Progress.{Progress}
use Rattle.coded_turns.specs.Walk.{none}
use Rattle.coded_turns.proofs.ProgressLaws.{none_runs, walk_lock}
use Rattle.coded_turns.proofs.RunLaws.{out_locks, in_locks}
use Rattle.coded_turns.proofs.coded.code_piece.Goals as goal

pub returns-then-progress-ne0 : goal.returns-then-progress-ne0
returns-then-progress-ne0 c = record { walk = λ d out h. none; most = omega arith; spent = λ h. c.requires.3 }

pub returns-then-to-at : goal.returns-then-to-at
returns-then-to-at c = record { walk = λ d out h. none; most = omega arith; spent = λ h. c.requires.3 }

pub returns-then-free-lt-ROOM_FOR_STEP : goal.returns-then-free-lt-ROOM_FOR_STEP
returns-then-free-lt-ROOM_FOR_STEP c = record { walk = λ d out h. none; most = omega arith; spent = λ h. c.requires.3 }

pub names_piece-requires : goal.names_piece-requires
names_piece-requires c =
    (c.if-progress-ne0.false, c.awaits_nothing.ensures c.if-awaits_nothing.true, c.reach-to.ensures.0, c.reach-to.ensures.1, omega (arith, c.reach-to.ensures.0, c.reach-to.ensures.2, c.ranges.budget, c.well_formed))

pub returns-then-piece-at-ge32 : goal.returns-then-piece-at-ge32
returns-then-piece-at-ge32 c = record { walk = λ d out h. c.names_piece.ensures.walk c.args.budget d c.args.store.now out c.reach-to.ensures.2 (omega (arith, c.if-free-lt-ROOM_FOR_STEP.false, h)); most = omega (arith, c.names_piece.ensures.most, c.reach-to.ensures.2); spent = λ h. none_runs _ _ _ (c.names_piece.ensures.still h) }

pub lock-requires : goal.lock-requires
lock-requires c =
    (omega (arith, c.if-to-at.false, c.reach-to.ensures.3), omega (arith, c.if-to-at.false, c.reach-to.ensures.1))

pub returns-then-piece-at-eq-SHIFT_OUT : goal.returns-then-piece-at-eq-SHIFT_OUT
returns-then-piece-at-eq-SHIFT_OUT c = record { walk = λ d out h. walk_lock c.args.budget c.args.progress c.args.cursors.now c.args.firsts.now d c.args.store.now c.args.piece.now out c.if-progress-ne0.false c.reach-to.result c.reach-to.ensures.1 c.reach-to.ensures.2 (omega (arith, c.if-free-lt-ROOM_FOR_STEP.false, h)) 14 G1 (c.awaits_nothing-2.ensures c.if-awaits_nothing-2.true) (c.if-piece-at-eq-SHIFT_OUT.true) (omega arith) out_locks c.if-to-at.false c.lock.result c.lock.ensures; most = omega (arith, ap (λ (p : Progress). p.steps) c.lock.ensures, c.if-to-at.false, c.reach-to.ensures.2); spent = λ h. none_runs _ _ _ (ap (λ (p : Progress). p.depth) c.lock.ensures ∙ c.if-progress-ne0.false) }

pub lock-requires-then-piece-at-eq-SHIFT_IN : goal.lock-requires-then-piece-at-eq-SHIFT_IN
lock-requires-then-piece-at-eq-SHIFT_IN c =
    (omega (arith, c.if-to-at.false, c.reach-to.ensures.3), omega (arith, c.if-to-at.false, c.reach-to.ensures.1))

pub returns-then-piece-at-eq-SHIFT_IN : goal.returns-then-piece-at-eq-SHIFT_IN
returns-then-piece-at-eq-SHIFT_IN c = record { walk = λ d out h. walk_lock c.args.budget c.args.progress c.args.cursors.now c.args.firsts.now d c.args.store.now c.args.piece.now out c.if-progress-ne0.false c.reach-to.result c.reach-to.ensures.1 c.reach-to.ensures.2 (omega (arith, c.if-free-lt-ROOM_FOR_STEP.false, h)) 15 G0 (c.awaits_nothing-3.ensures c.if-awaits_nothing-3.true) (c.if-piece-at-eq-SHIFT_IN.true) (omega arith) in_locks c.if-to-at.false c.lock-then-piece-at-eq-SHIFT_IN.result c.lock-then-piece-at-eq-SHIFT_IN.ensures; most = omega (arith, ap (λ (p : Progress). p.steps) c.lock-then-piece-at-eq-SHIFT_IN.ensures, c.if-to-at.false, c.reach-to.ensures.2); spent = λ h. none_runs _ _ _ (ap (λ (p : Progress). p.depth) c.lock-then-piece-at-eq-SHIFT_IN.ensures ∙ c.if-progress-ne0.false) }

pub returns-then-is_marked : goal.returns-then-is_marked
returns-then-is_marked c = record { walk = λ d out h. none; most = omega arith; spent = λ h. c.requires.3 }

pub idle_piece-requires : goal.idle_piece-requires
idle_piece-requires c =
    (c.if-progress-ne0.false, c.requires.0, c.requires.1, c.reach-to.ensures.0, c.reach-to.ensures.1, omega (arith, c.reach-to.ensures.0, c.reach-to.ensures.2, c.ranges.budget, c.well_formed))

pub returns : goal.returns
returns c = record { walk = λ d out h. c.idle_piece.ensures.walk c.args.budget c.args.cursors.now d out c.reach-to.ensures.2 (omega (arith, c.if-free-lt-ROOM_FOR_STEP.false, h)); most = omega (arith, c.idle_piece.ensures.most, c.reach-to.ensures.2); spent = λ h. none_runs _ _ _ (c.idle_piece.ensures.still h) }

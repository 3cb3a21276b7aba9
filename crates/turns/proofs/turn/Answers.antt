use Rattle.steps.proofs.StepLaws.{ends_due, ends_room, some_room}
use Rattle.turns.proofs.TurnLaws.{some_of_piece, turn_done, turn_full, turn_spent, none_found, turn_bad, turn_byte}
use Rattle.turns.proofs.Prelude.{arith, sym, ◌∙◌}
use Rattle.turns.proofs.turn.Goals as goal

pub returns-then-nothing_left : goal.returns-then-nothing_left
returns-then-nothing_left c = record { left = λ d out. turn_done c.args.budget c.args.progress c.args.cursors.now c.args.firsts.now d c.args.store.now c.args.piece.now out c.args.free c.requires.4 (sym c.nothing_left.ensures ∙ c.if-nothing_left.true) c.ends.result c.ends.ensures; due = ends_due c.args.progress c.args.progress c.ends.result _ c.ends.ensures; room = ends_room c.args.progress c.ends.result _ c.args.free c.ends.ensures }

pub returns-then-free-lt-ROOM_FOR_STEP : goal.returns-then-free-lt-ROOM_FOR_STEP
returns-then-free-lt-ROOM_FOR_STEP c = record { left = λ d out. turn_full c.args.budget c.args.progress c.args.cursors.now c.args.firsts.now d c.args.store.now c.args.piece.now out c.args.free c.requires.4 (sym c.nothing_left.ensures ∙ c.if-nothing_left.false) c.if-free-lt-ROOM_FOR_STEP.true c.ends-then-free-lt-ROOM_FOR_STEP.result c.ends-then-free-lt-ROOM_FOR_STEP.ensures; due = ends_due c.args.progress c.args.progress c.ends-then-free-lt-ROOM_FOR_STEP.result _ c.ends-then-free-lt-ROOM_FOR_STEP.ensures; room = ends_room c.args.progress c.ends-then-free-lt-ROOM_FOR_STEP.result _ c.args.free c.ends-then-free-lt-ROOM_FOR_STEP.ensures }

pub returns-then-budget-progress : goal.returns-then-budget-progress
returns-then-budget-progress c = record { left = λ d out. turn_spent c.args.budget c.args.progress c.args.cursors.now c.args.firsts.now d c.args.store.now c.args.piece.now out c.args.free c.requires.4 (sym c.nothing_left.ensures ∙ c.if-nothing_left.false) c.if-free-lt-ROOM_FOR_STEP.false c.if-budget-progress.true c.ends-then-budget-progress.result c.ends-then-budget-progress.ensures; due = ends_due c.args.progress c.args.progress c.ends-then-budget-progress.result _ c.ends-then-budget-progress.ensures; room = ends_room c.args.progress c.ends-then-budget-progress.result _ c.args.free c.ends-then-budget-progress.ensures }

pub next_byte-requires : goal.next_byte-requires
next_byte-requires c =
    (c.requires.0, c.requires.1, some_of_piece c.args.progress.depth c.args.progress.at c.args.piece.now (sym c.nothing_left.ensures ∙ c.if-nothing_left.false))

pub place_after-requires : goal.place_after-requires
place_after-requires c =
    λ h. omega (arith, some_of_piece c.args.progress.depth c.args.progress.at c.args.piece.now (sym c.nothing_left.ensures ∙ c.if-nothing_left.false) h, c.well_formed.1.1.1.1.1.1.0.0)

pub interpret-requires : goal.interpret-requires
interpret-requires c =
    (record { depth = c.requires.1; steps = omega (arith, c.if-budget-progress.false, c.ranges.budget); after = c.place_after.ensures }, c.requires.0, c.requires.2)

pub returns-in_default : goal.returns-in_default
returns-in_default c = record { left = λ d out. turn_bad c.args.budget c.args.progress c.args.cursors.now c.args.firsts.now d c.args.store.now c.args.piece.now out c.args.free c.requires.4 (sym c.nothing_left.ensures ∙ c.if-nothing_left.false) c.if-free-lt-ROOM_FOR_STEP.false c.if-budget-progress.false c.next_byte.result c.next_byte.ensures (none_found _ c.in_default.not-Some) c.ends-in_default.result c.ends-in_default.ensures; due = ends_due c.args.progress c.args.progress c.ends-in_default.result _ c.ends-in_default.ensures; room = ends_room c.args.progress c.ends-in_default.result _ c.args.free c.ends-in_default.ensures }

pub returns : goal.returns
returns c = record { left = λ d out. turn_byte c.args.budget c.args.progress c.args.cursors.now c.args.firsts.now d c.args.store.now c.args.piece.now out c.args.free c.requires.4 (sym c.nothing_left.ensures ∙ c.if-nothing_left.false) c.if-free-lt-ROOM_FOR_STEP.false c.if-budget-progress.false c.next_byte.result c.next_byte.ensures c.in-Some.is _ (c.interpret.ensures.left c.args.budget d out); due = c.interpret.ensures.due; room = some_room c.interpret.result.course c.args.free c.if-free-lt-ROOM_FOR_STEP.false }

use Rattle.std.proofs.Common.{sym, ◌∙◌}
use Rattle.rules.proofs.Steps.{valid_store, valid_depth}
use Rattle.ending.proofs.EndLaws.{left_answer, inside_answer, none_answer, full_answer, close_answer}
use Rattle.ending.proofs.end_running.Goals as goal

pub bytes_left-requires : goal.bytes_left-requires
bytes_left-requires c =
    (valid_store c.requires, valid_depth c.requires)

pub returns-then-bytes_left : goal.returns-then-bytes_left
returns-then-bytes_left c =
    left_answer c.args.session _ _ _ (c.requires) (sym c.bytes_left.ensures ∙ c.if-bytes_left.true) c.rest.ensures

pub returns-then-unfinished : goal.returns-then-unfinished
returns-then-unfinished c =
    inside_answer c.args.session _ _ _ (c.requires) (sym c.bytes_left.ensures ∙ c.if-bytes_left.false) (sym c.unfinished.ensures ∙ c.if-unfinished.true) c.stop.ensures

pub returns-then-session-eq0 : goal.returns-then-session-eq0
returns-then-session-eq0 c =
    none_answer c.args.session _ _ _ (c.requires) (sym c.bytes_left.ensures ∙ c.if-bytes_left.false) (sym c.unfinished.ensures ∙ c.if-unfinished.false) c.if-session-eq0.true c.close_none.ensures

pub returns-then-out-lt-ROOM_FOR_STEP : goal.returns-then-out-lt-ROOM_FOR_STEP
returns-then-out-lt-ROOM_FOR_STEP c =
    full_answer c.args.session _ _ _ (c.requires) (sym c.bytes_left.ensures ∙ c.if-bytes_left.false) (sym c.unfinished.ensures ∙ c.if-unfinished.false) c.if-session-eq0.false c.if-out-lt-ROOM_FOR_STEP.true c.rest-then-out-lt-ROOM_FOR_STEP.ensures

pub returns : goal.returns
returns c =
    close_answer c.args.session _ _ _ _ (c.requires) (sym c.bytes_left.ensures ∙ c.if-bytes_left.false) (sym c.unfinished.ensures ∙ c.if-unfinished.false) c.if-out-lt-ROOM_FOR_STEP.false (c.close_command.ensures _)

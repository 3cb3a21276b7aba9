use Rattle.turn_runs.specs.Prelude.{arith, refl, sym, ◌∙◌}
use Rattle.turn_runs.specs.Cancelling.{kept}
use Rattle.turn_runs.proofs.DrewLaws.{marks_cancel}
use Rattle.turn_runs.proofs.cancelling.draw_cancel.Goals as goal

pub returns-then-not-comes_next : goal.returns-then-not-comes_next
returns-then-not-comes_next c = record { cancels = λ t. kept; most = c.requires.0 }

pub returns-then-finishes_apart : goal.returns-then-finishes_apart
returns-then-finishes_apart c = record { cancels = λ t. kept; most = c.requires.0 }

pub mark_next-next-requires : goal.mark_next-next-requires
mark_next-next-requires c =
    let next = c.comes_next.ensures c.if-not-comes_next.false in
    (omega arith, c.row_of-row.ensures, rw c.role_due.ensures at (sym c.finishes_apart.ensures ∙ c.if-finishes_apart.false), omega (arith, next.2, c.requires.1))

pub overflow_add-result : goal.overflow_add-result
overflow_add-result c =
    let next = c.comes_next.ensures c.if-not-comes_next.false in
    omega (arith, next.0, c.well_formed)

pub returns : goal.returns
returns c = let next = c.comes_next.ensures c.if-not-comes_next.false in
    let fresh = c.none_begun.ensures.none c.if-not-none_begun.false in
    record { cancels = λ t. marks_cancel c.args.bytes.now t c.args.look c.args.drew c.args.out.now c.mark_next-next.result _ _ next.1 (omega (arith, next.2, c.requires.1)) fresh (λ s o m z. c.mark_next-next.ensures.drawn c.args.look s o m (record { head = c.head_of-ink.ensures; size = refl }) z) c.tip_after.ensures; most = omega (arith, next.0) }

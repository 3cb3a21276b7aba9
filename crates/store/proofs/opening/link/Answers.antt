use Rattle.std.specs.Prelude.{◌≡◌, ◌+◌}
use Rattle.store.specs.Prelude.{◌∙◌, ap, List, ℕ, arith, length, length-replicate}
use Rattle.rules.specs.Store.{set_next}
use Rattle.store.proofs.CellLaws.{linked_to, linked_none, linked_more, linked_all}
use Rattle.store.proofs.opening.link.Goals as goal

pub loop-cell-init : goal.loop-cell-init
loop-cell-init c =
    (c.requires ∙ linked_none, ap length c.requires ∙ length-replicate {A = ℕ} 8192 0)

pub loop-cell-preserved : goal.loop-cell-preserved
loop-cell-preserved c =
    let k = c.loop-cell.cell in
    (c.set_next.ensures ∙ ap (λ (s : List ℕ). set_next s k (k + 1)) c.loop-cell.invariant.0 ∙ linked_more k c.loop-cell-test.true, omega arith)

pub returns : goal.returns
returns c =
    let e : c.loop-cell.cell ≡ 255 = omega arith in
    c.loop-cell.invariant.0 ∙ ap linked_to e ∙ linked_all

use Rattle.std.specs.Prelude.{◌≡◌, ◌-◌, ◌+◌}
use Rattle.store.specs.Prelude.{refl, ◌∙◌, sym, arith}
use Rattle.store.proofs.ChainLaws.{last_none, last_here, last_on}
use Rattle.store.proofs.chains.last_cell.Goals as goal

pub loop-init : goal.loop-init
loop-init c = refl

pub returns-then-next-eq0 : goal.returns-then-next-eq0
returns-then-next-eq0 c =
    sym (c.loop.invariant ∙ last_here _ _ _ (omega arith) (sym c.next_of-next.ensures ∙ c.if-next-eq0.true))

pub loop-preserved : goal.loop-preserved
loop-preserved c =
    let left : 255 - (c.loop.counter + 1) ≡ 255 - c.loop.counter - 1 = omega arith in
    rw left (c.loop.invariant ∙ last_on _ _ _ _ (omega arith) c.next_of-next.ensures c.if-next-eq0.false)

pub returns : goal.returns
returns c = sym (c.loop.invariant ∙ last_none _ _ _ (omega arith))

use Rattle.store.specs.Prelude.{◌∙◌, sym, arith, lt-ltb, le-ltb, le-leb, lt-leb}
use Rattle.rules.specs.Bodies.{read_body}
use Rattle.store.proofs.CellLaws.{good_most}
use Rattle.store.proofs.cursors.read_body.Goals as goal
use Rattle.store.proofs.cursors.read_body.Goals.{then-not-good_count-via-then-not-good_count, then-not-good_count-via-else-not-good_count+then-count-cursor}

pub returns-then-not-good_count : goal.returns-then-not-good_count
unfolding read_body
returns-then-not-good_count c =
    elim c.then-not-good_count.branch [
      | then-not-good_count-via-then-not-good_count w ↦ simp (← c.count_of-count.ensures, ← c.good_count.ensures, w.if-not-good_count.true)
      | then-not-good_count-via-else-not-good_count+then-count-cursor w ↦
          simp (← c.count_of-count.ensures, ← c.good_count.ensures, w.if-not-good_count.false, lt-leb _ _ w.if-count-cursor.true)
    ]

pub read_cell-requires : goal.read_cell-requires
read_cell-requires c =
    omega (arith, good_most _ (sym c.good_count.ensures ∙ c.if-not-good_count.false))

pub returns-then-cursor-count : goal.returns-then-cursor-count
unfolding read_body
returns-then-cursor-count c =
    simp (← c.count_of-count.ensures, ← c.good_count.ensures, c.if-not-good_count.false, le-leb _ _ c.if-count-cursor.false, lt-ltb _ _ c.if-cursor-count.true) c.read_cell.ensures

pub returns-then-not-good_count-2 : goal.returns-then-not-good_count-2
unfolding read_body
returns-then-not-good_count-2 c =
    simp (← c.count_of-count.ensures, ← c.good_count.ensures, c.if-not-good_count.false, le-leb _ _ c.if-count-cursor.false, le-ltb _ _ c.if-cursor-count.false, ← c.next_of-cell.ensures, ← c.count_of.ensures, ← c.good_count-2.ensures, c.if-not-good_count-2.true)

pub returns : goal.returns
unfolding read_body
returns c =
    simp (← c.count_of-count.ensures, ← c.good_count.ensures, c.if-not-good_count.false, le-leb _ _ c.if-count-cursor.false, le-ltb _ _ c.if-cursor-count.false, ← c.next_of-cell.ensures, ← c.count_of.ensures, ← c.good_count-2.ensures, c.if-not-good_count-2.false) c.read_cell-2.ensures

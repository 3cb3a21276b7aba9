use Rattle.records.specs.Prelude.{arith}
use Rattle.rules.specs.Record.{record_of}
use Rattle.records.proofs.Heads.{joined}
use Rattle.records.proofs.head_of.Goals as goal

pub returns : goal.returns
unfolding record_of
returns c =
    let first = joined _ _ _ _ _ c.ranges.kind.fits c.ranges.flags.fits (omega arith) (omega arith) c.from_le_bytes-first.ensures in
    let second = joined _ _ _ _ _ (omega arith) (omega arith) c.ranges.repertoire.fits c.ranges.code.fits c.from_le_bytes-second.ensures in
    λ p q s. rw (first, second, c.ink_of-ink.ensures)

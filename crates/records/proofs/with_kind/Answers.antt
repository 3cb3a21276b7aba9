use Rattle.std.specs.Prelude.{◌++◌, ◌/◌, ◌%◌}
use Rattle.records.specs.Prelude.{ap, List, ℕ, arith}
use Rattle.rules.specs.Record.{word}
use Rattle.records.proofs.Heads.{joined}
use Rattle.records.proofs.with_kind.Goals as goal

pub returns : goal.returns
unfolding word
returns c =
    let h = c.args.head in
    let e = rw c.to_le_bytes.ensures at c.from_le_bytes-first.ensures in
    ap (λ (bs : List ℕ). bs ++ word h.second)
    (joined c.args.kind c.args.flags (h.first / 65536 % 256) (h.first / 16777216 % 256) _ c.ranges.kind.fits c.ranges.flags.fits (omega arith) (omega arith) e)

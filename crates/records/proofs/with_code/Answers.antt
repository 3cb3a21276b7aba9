use Rattle.std.specs.Prelude.{◌++◌, ◌/◌, ◌%◌}
use Rattle.records.specs.Prelude.{ap, List, ℕ, arith}
use Rattle.rules.specs.Record.{word}
use Rattle.records.proofs.Heads.{joined}
use Rattle.records.proofs.with_code.Goals as goal

pub returns : goal.returns
unfolding word
returns c =
    let h = c.args.head in
    let e = rw c.to_le_bytes.ensures at c.from_le_bytes-second.ensures in
    ap (λ (bs : List ℕ). word h.first ++ bs)
    (joined (h.second % 256) (h.second / 256 % 256) (h.second / 65536 % 256) c.args.code _ (omega arith) (omega arith) (omega arith) c.ranges.code.fits e)

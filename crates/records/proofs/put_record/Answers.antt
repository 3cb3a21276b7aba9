use Rattle.std.specs.Prelude.{◌++◌}
use Rattle.records.specs.Prelude.{ap, ap₂, ◌∙◌, List, ℕ, arith}
use Rattle.records.specs.Bytes.{overwrite}
use Rattle.records.proofs.Heads.{record_bytes, joined}
use Rattle.records.proofs.put_record.Goals as goal

pub returns : goal.returns
returns c =
    let r = c.args.r in
    let first = joined r.kind r.flags r.mode r.colour0 _ (omega arith) (omega arith) (omega arith) (omega arith) c.from_le_bytes-first.ensures in
    let second = joined r.colour1 r.colour2 r.set r.code _ (omega arith) (omega arith) (omega arith) (omega arith) c.from_le_bytes-second.ensures in
    let e = ap₂ (λ (a b : List ℕ). a ++ b) first second in
    c.put_words.ensures ∙ ap (λ (bs : List ℕ). overwrite c.args.at bs c.args.out.now) (record_bytes r _ e)

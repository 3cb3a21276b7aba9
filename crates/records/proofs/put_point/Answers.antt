use Rattle.records.specs.Prelude.{arith}
use Rattle.rules.specs.Record.{word, words}
use Rattle.records.proofs.Writes.{then}
use Rattle.records.proofs.put_point.Goals as goal

pub returns : goal.returns
unfolding words word
returns c =
    let p = c.args.p in
    then c.args.out.now (word p.x) (word p.y) c.args.at (omega arith) c.put_word.ensures c.put_word-2.ensures

use Rattle.records.specs.Prelude.{towards_suc}
use Rattle.rules.specs.Record.{word}
use Rattle.records.proofs.Writes.{stored}
use Rattle.records.proofs.put_word.Goals as goal

pub returns : goal.returns
unfolding word
returns c = rw c.to_le_bytes.ensures (simp towards_suc (stored (word c.args.n) c.args.out.now c.args.at c.requires))

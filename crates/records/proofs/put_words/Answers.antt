use Rattle.std.specs.Prelude.{◌++◌, ◌≤◌}
use Rattle.records.specs.Prelude.{le_trans, le-add_right, length}
use Rattle.rules.specs.Record.{word, words}
use Rattle.records.specs.Bytes.{head_bytes}
use Rattle.records.proofs.Writes.{then}
use Rattle.records.proofs.put_words.Goals as goal

pub returns : goal.returns
unfolding words word
returns c =
    let l = c.args.out.now in
    let i = c.args.at in
    let h = head_bytes c.args.head in
    let f : i ≤ length l = le_trans (le-add_right i 40) (c.requires) in
    let e1 = then l (word c.args.head.first) (word c.args.head.second) i f c.put_word.ensures c.put_word-2.ensures in
    let e2 = then l h (words c.args.p0) i f e1 c.put_point.ensures in
    let e3 = then l (h ++ words c.args.p0) (words c.args.p1) i f e2 c.put_point-2.ensures in
    let e4 = then l (h ++ words c.args.p0 ++ words c.args.p1) (words c.args.p2) i f e3 c.put_point-3.ensures in
    then l (h ++ words c.args.p0 ++ words c.args.p1 ++ words c.args.p2) (words c.args.pel) i f e4 c.put_point-4.ensures

use Rattle.line_runs.specs.Prelude.{arith}
use Rattle.line_runs.proofs.CharacterLaws.{line_shorter, line_left, line_went}
use Rattle.line_runs.proofs.put_rest.Goals as goal

pub put_line-lined-requires : goal.put_line-lined-requires
put_line-lined-requires c =
    let few = c.min-on_line.ensures in
    (omega arith, omega (arith, few), (λ n h. c.requires.1 n (omega (arith, h, few))), line_shorter c.args.hand.text c.line_of-line.result.most _ c.line_of-line.result.step (omega (arith, few)) c.line_of-line.ensures)

pub returns-then-lined-count : goal.returns-then-lined-count
returns-then-lined-count c = record { goes = line_left c.args.common c.args.bytes.now 0 c.args.at c.args.count c.put_line-lined.result.count c.args.hand.moved c.args.hand.text c.put_line-lined.result.left _ _ c.if-lined-count.true (c.put_line-lined.ensures.line c.args.hand.moved); most = (omega arith, c.requires.0) }

pub returns : goal.returns
returns c = record { goes = line_went c.args.common c.args.bytes.now 0 c.args.at c.args.count c.put_line-lined.result.count c.args.hand.moved c.args.hand.text _ c.put_line-lined.result.left _ _ _ c.if-lined-count.false c.put_line-lined.ensures.most.0 c.unpacked.ensures c.with_cursor-text.ensures (c.put_line-lined.ensures.line c.args.hand.moved); most = (c.put_line-lined.ensures.most.0, omega arith) }

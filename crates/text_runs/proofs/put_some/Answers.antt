use Rattle.text_runs.proofs.Prelude.{ℕ, arith, subst, get_or}
use Rattle.line_runs.specs.Characters.{IsCharacter}
use Rattle.line_runs.proofs.CharacterLaws.{goes_then, some_more}
use Rattle.text_runs.proofs.put_some.Goals as goal

pub put_rest-rest-requires : goal.put_rest-rest-requires
put_rest-rest-requires c =
    (omega (arith, c.requires.0), c.requires.1)

pub returns-then-rest-bytes : goal.returns-then-rest-bytes
returns-then-rest-bytes c = record { goes = c.put_rest-rest.ensures.goes; most = (omega (arith, c.if-rest-bytes.true, c.requires.0), c.put_rest-rest.ensures.most.1) }

pub put_one-requires : goal.put_one-requires
put_one-requires c =
    let g = c.requires.1 c.put_rest-rest.result.count (omega (arith, c.put_rest-rest.ensures.most.1, c.if-rest-bytes.false)) in
    (omega (arith, c.put_rest-rest.ensures.most.1, c.if-rest-bytes.false), omega (arith, g, c.put_rest-rest.auto.out))

pub returns : goal.returns
returns c = record { goes = goes_then c.args.common c.args.bytes.now 0 c.args.at c.args.count c.put_rest-rest.result.count c.put_one.result.count c.args.hand.moved c.put_rest-rest.result.left.moved c.put_one.result.left.moved c.args.hand.text c.put_rest-rest.result.left.text c.put_one.result.left.text _ _ _ c.put_rest-rest.ensures.goes c.put_one.ensures.goes; most = (some_more _ _ _ c.put_rest-rest.ensures.most.0 c.put_one.ensures.most.0 (λ e. c.put_one.ensures.most.2 (subst (λ (n : ℕ). IsCharacter c.args.common (get_or c.args.bytes.now n 0)) e c.requires.2)), omega (arith, c.put_rest-rest.ensures.most.1, c.if-rest-bytes.false, c.put_one.ensures.most.1)) }

use Rattle.text_runs.proofs.Prelude.{refl, arith}
use Rattle.line_runs.proofs.CharacterLaws.{goes_none, goes_on, code_at}
use Rattle.text_runs.proofs.put_one.Goals as goal

pub returns-then-not-is_character : goal.returns-then-not-is_character
returns-then-not-is_character c = record { goes = goes_none c.args.common c.args.bytes.now 0 c.args.at c.args.count c.args.hand.moved c.args.hand.text _; most = (omega arith, omega arith, λ h. absurd (c.is_character.ensures.1 c.if-not-is_character.true h)) }

pub returns : goal.returns
returns c = let k = c.is_character.ensures.0 c.if-not-is_character.false in
    record { goes = goes_on c.args.common c.args.bytes.now 0 c.args.at _ c.args.count _ c.args.hand.moved c.typed_on.result.moved c.args.hand.text c.typed_on.result.text _ _ _ _ (code_at c.args.bytes.now c.args.count) k c.requires.1 c.with_code.ensures refl refl c.put_words.ensures c.typed_on.ensures; most = (omega arith, omega arith, λ h. refl) }

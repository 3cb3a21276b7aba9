use Rattle.std.specs.Prelude.{◌≡◌, ◌-◌}
use Rattle.line_runs.specs.Prelude.{ℕ, refl, subst, arith, ◌∙◌}
use Rattle.line_runs.specs.Characters.{Goes, line_moved, line_text}
use Rattle.line_runs.proofs.CharacterLaws.{line_none, line_on, line_all, code_at}
use Rattle.line_runs.proofs.put_line.Goals as goal

pub loop-n-init : goal.loop-n-init
loop-n-init c =
    (refl, λ t l. line_none c.args.common c.args.bytes.now 0 c.args.at t c.args.step _ c.args.count _)

pub overflow_mul-place : goal.overflow_mul-place
overflow_mul-place c =
    let g = c.requires.2 c.loop-n.n (omega arith) in
    omega (arith, c.well_formed)

pub overflow_add-place : goal.overflow_add-place
overflow_add-place c =
    let g = c.requires.2 c.loop-n.n (omega arith) in
    omega (arith, c.well_formed)

pub put_words-requires : goal.put_words-requires
put_words-requires c =
    let g = c.requires.2 c.loop-n.n (omega arith) in
    omega (arith, c.loop-n.invariant.0)

pub loop-n-preserved : goal.loop-n-preserved
loop-n-preserved c =
    let bs = c.args.bytes.now in
    let g = c.requires.2 c.loop-n.n (omega arith) in
    (c.put_words.auto.out ∙ c.loop-n.invariant.0, λ t l. line_on c.args.common bs 0 c.args.at t c.args.step _ c.args.count _ _ _ c.loop-n.n _ c.loop-n.cursor _ c.args.end _ l (c.loop-n.invariant.1 t l) (omega arith) refl (code_at bs c.loop-n.n) (c.is_spacing.ensures c.if-not-is_spacing.false) (omega (arith, c.loop-n.invariant.0)) c.with_code.ensures _ c.unpacked.ensures c.put_words.ensures)

pub returns-then-not-is_spacing-clause-line : goal.returns-then-not-is_spacing-clause-line
returns-then-not-is_spacing-clause-line c = line_all _ _ _ _ c.args.text _ _ _ _ _ _ _ (c.loop-n.invariant.1 c.args.text (c.packed-cursor.ensures.0, c.packed-cursor.ensures.1, refl, c.requires.3))

pub returns-clause-line : goal.returns-clause-line
returns-clause-line c v =
    let text = c.args.text in
    let count = c.args.count in
    let all_put : c.loop-n.n ≡ c.args.end = omega (arith, c.loop-n.auto.n-end, c.loop-n-test.false, c.requires.0) in
    subst (λ (n : ℕ). Goes c.args.common c.args.bytes.now 0 c.args.at count v text c.args.out.now n (line_moved (n - count) v) (line_text (n - count) c.loop-n.cursor text) c.loop-n.out) all_put
    (line_all _ _ _ _ text _ _ _ _ _ _ _ (c.loop-n.invariant.1 text (c.packed-cursor.ensures.0, c.packed-cursor.ensures.1, refl, c.requires.3)) v)

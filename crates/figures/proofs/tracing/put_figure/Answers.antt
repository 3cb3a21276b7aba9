use Rattle.std.proofs.Common.{le-add_right, le_refl, ap, ◌∙◌, List, ℕ}
use Rattle.records.specs.Bytes.{overwrite}
use Rattle.figures.proofs.TraceLaws.{figure_bytes, put_none, put_one}
use Rattle.figures.proofs.tracing.put_figure.Goals as goal

pub returns-then-figure-eq0 : goal.returns-then-figure-eq0
returns-then-figure-eq0 c = record { put = λ l k. put_none l _ _ _ c.if-figure-eq0.true; most = le-add_right _ 40 }

pub returns : goal.returns
returns c = record { put = λ l k. put_one l _ _ _ c.if-figure-eq0.false _ (c.put_words.ensures ∙ ap (λ (bs : List ℕ). overwrite c.args.at bs c.args.out.now) (figure_bytes _ _ l _ _ _ _ _ _ k c.with_kind-head.ensures)); most = le_refl _ }

use Rattle.operands.specs.Prelude.{sym, ap, ◌∙◌, false}
use Rattle.rules.specs.Operands.{point, all_data}
use Rattle.std.proofs.Common.{Some}
use Rattle.operands.proofs.WholeLaws.{three_whole, is_cut, is_whole}
use Rattle.operands.proofs.whole.whole_three.Goals as goal

pub returns-then-are_data : goal.returns-then-are_data
returns-then-are_data c =
    let bs = c.args.bytes.now in
    let told = three_whole bs c.requires (λ i. (c.type_inv.bytes i).fits) all_data _ _ c.are_data.ensures c.three_bytes-w.ensures in
    let read = three_whole bs c.requires (λ i. (c.type_inv.bytes i).fits) (point false) _ _ c.point_of_three.ensures c.three_bytes-w.ensures in
    ap Some read ∙ is_whole false bs (sym told ∙ c.if-are_data.true)

pub returns-else-are_data : goal.returns-else-are_data
returns-else-are_data c =
    let bs = c.args.bytes.now in
    let told = three_whole bs c.requires (λ i. (c.type_inv.bytes i).fits) all_data _ _ c.are_data.ensures c.three_bytes-w.ensures in
    is_cut false bs (sym told ∙ c.if-are_data.false)

use Rattle.operands.specs.Prelude.{sym, ◌∙◌, ap}
use Rattle.operands.proofs.WholeLaws.{all_told, is_whole, is_cut}
use Rattle.std.proofs.Common.{Some}
use Rattle.operands.proofs.whole.whole_long.Goals as goal

pub returns-then-are_all_data : goal.returns-then-are_all_data
returns-then-are_all_data c =
    let told = all_told c.args.bytes.now _ c.are_all_data.ensures in
    ap Some c.read_point.ensures ∙ is_whole c.args.three c.args.bytes.now (sym told ∙ c.if-are_all_data.true)

pub returns-else-are_all_data : goal.returns-else-are_all_data
returns-else-are_all_data c =
    let told = all_told c.args.bytes.now _ c.are_all_data.ensures in
    is_cut c.args.three c.args.bytes.now (sym told ∙ c.if-are_all_data.false)

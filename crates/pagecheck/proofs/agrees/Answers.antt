use Rattle.std.proofs.Common.{sym, length-take-le, arith}
use Rattle.pagecheck.proofs.agrees.Goals as goal

pub slice_bounds-gives-end : goal.slice_bounds-gives-end
slice_bounds-gives-end c = sym (length-take-le _ _ (omega arith))

pub slice_bounds-gives-end-2 : goal.slice_bounds-gives-end-2
slice_bounds-gives-end-2 c = sym (length-take-le _ _ (omega arith))

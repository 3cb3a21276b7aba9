-- What the files of this crate use of the libraries, under one name
pub use Rattle.std.specs.Prelude.{refl, Bool, true, false, not, List, ℕ, zero, suc, get_or, take, drop, eqb}
pub use Rattle.std.proofs.Common.{sym, ap, ◌∙◌, subst, not-suc-le-zero, sub-one, arith, rules}

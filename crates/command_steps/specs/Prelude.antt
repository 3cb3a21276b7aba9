-- What the files of this crate use of the libraries, under one name
pub use Rattle.std.specs.Prelude.{refl, Bool, true, false, List, [], ℕ, suc, length, get_or, ltb}
pub use Rattle.std.proofs.Common.{sym, ap, ◌∙◌, subst, add-zero, add-one, arith, lt-ltb, le-ltb, rules}

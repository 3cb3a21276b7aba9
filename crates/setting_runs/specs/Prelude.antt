-- What the files of this crate use of the libraries, under one name
pub use Rattle.std.specs.Prelude.{refl, false, List, [], ℕ, zero, suc, length, get_or, take, drop}
pub use Rattle.std.proofs.Common.{sym, ap, ◌∙◌, subst, add-zero, arith, get_or-drop, get_or-take}
pub use Rattle.std.proofs.lemmas.Bool.{eqb-false}

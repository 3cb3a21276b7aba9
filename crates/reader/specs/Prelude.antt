-- What the files of this crate use of the libraries, under one name
pub use Rattle.std.specs.Prelude.{refl, List, [], ℕ, min, length, take, drop}
pub use Rattle.std.proofs.Common.{sym, ap, ◌∙◌, subst, ap₂, arith, length-drop, drop-drop, rules}

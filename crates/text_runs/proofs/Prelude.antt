-- What the files of this crate use of the libraries, under one name
pub use Rattle.std.specs.Prelude.{refl, ℕ, length, get_or, take}
pub use Rattle.std.proofs.Common.{sym, ◌∙◌, subst, arith, length-take-le, rules}

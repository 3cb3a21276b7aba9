-- What the files of this crate use of the libraries, under one name
pub use Rattle.std.specs.Prelude.{refl, List, [], ℕ, eqb}
pub use Rattle.std.proofs.Common.{◌∙◌, rules}

-- What the files of this crate use of the libraries, under one name
pub use Rattle.std.specs.Prelude.{refl, Bool, true, false, ℕ, get_or, ltb}
pub use Rattle.std.proofs.Common.{sym, ap, ◌∙◌, ltb-true}

-- What the files of this crate use of the libraries, under one name
pub use Rattle.std.specs.Prelude.{refl, Bool, true, false, List, [], ℕ, ltb, eqb, leb}
pub use Rattle.std.proofs.Common.{◌∙◌, inl, inr, ltb-false, lt-ltb, le-ltb, leb-true, rules}

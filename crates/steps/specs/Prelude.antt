-- What the files of this crate use of the libraries, under one name
pub use Rattle.std.specs.Prelude.{refl, Bool, true, false, not, List, [], ℕ, zero, suc, length, get_or, set, eqb}
pub use Rattle.std.proofs.Common.{sym, ap, ◌∙◌, inl, inr, add-zero, add-one, sub-one, lt-ltb, le-ltb, rules}

-- What the files of this crate use of the libraries, under one name
pub use Rattle.std.specs.Prelude.{refl, Bool, true, false, List, ℕ, zero, suc, get_or, length}
pub use Rattle.std.proofs.Common.{ap, ◌∙◌, sym, inl, inr, arith, le-ltb, ne_eqb, rules}

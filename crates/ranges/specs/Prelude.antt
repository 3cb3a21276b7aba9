-- What the files of this crate use of the libraries, under one name
pub use Rattle.std.specs.Prelude.{refl, Bool, true, false, List, [], ℕ, length, get_or, drop, eqb}
pub use Rattle.std.proofs.Common.{◌∙◌, sym, ap, le-leb, eq-eqb, ne_eqb, rules}
pub use Rattle.std.proofs.lemmas.Bool.{lt-leb, not-true, not-false}

-- What the files of this crate use of the libraries, under one name
pub use Rattle.std.specs.Prelude.{refl, true, false, Bool, not, List, [], ℕ, suc, zero, length, get_or, set, ltb, eqb}
pub use Rattle.std.proofs.Common.{sym, ap, ◌∙◌, add-one, arith, eq-eqb, ne_eqb, lt-ltb, le-ltb, eqb-true, ltb-true, ltb-false, rules}
pub use Rattle.std.proofs.lemmas.List.{set-get_or}
pub use Rattle.std.proofs.lemmas.Bool.{eqb-false}

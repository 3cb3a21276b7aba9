-- What the files of this crate use of the libraries, under one name
pub use Rattle.std.specs.Prelude.{refl, false, Bool, true, List, [], ℕ, zero, suc, length, get_or, set, ltb, eqb}
pub use Rattle.std.proofs.Common.{sym, ap, ◌∙◌, subst, add-zero, add-one, arith, ltb-true, ltb-false, leb-true, leb-false, eqb-true, ne_eqb, rules}
pub use Rattle.std.proofs.lemmas.Bool.{eqb-false, not-false}

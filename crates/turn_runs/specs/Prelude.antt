-- What the files of this crate use of the libraries, under one name
pub use Rattle.std.specs.Prelude.{refl, Bool, true, false, List, [], ℕ, zero, suc, length, drop, get_or, set, ltb}
pub use Rattle.std.proofs.Common.{sym, ap, subst, ◌∙◌, add-zero, add-one, arith, ltb-true, ltb-false, lt-ltb, le-ltb, eqb-true, leb-true, rules}
pub use Rattle.std.proofs.lemmas.List.{length-take, length-drop, get_or-take, get_or-drop, set-get_or}
pub use Rattle.std.proofs.lemmas.Bool.{not-false}

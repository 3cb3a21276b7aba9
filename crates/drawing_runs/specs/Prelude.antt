-- What the files of this crate use of the libraries, under one name
pub use Rattle.std.specs.Prelude.{refl, false, Bool, true, not, List, [], ℕ, zero, suc, length, get_or, take, drop, set, eqb}
pub use Rattle.std.proofs.Common.{sym, ap, ◌∙◌, subst, append-nil, add-zero, add_assoc, add-suc, arith, length-set, length-drop, drop-drop, take_all, take-suc, take-suc-set, get_or-drop, get_or-take, length-take-le, lt-ltb, le-ltb, ne_eqb, eqb-true, rules}
pub use Rattle.std.proofs.lemmas.Bool.{not-false}

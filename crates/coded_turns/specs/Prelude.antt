-- What the files of this crate use of the libraries, under one name
pub use Rattle.std.specs.Prelude.{refl, Bool, true, false, List, [], ℕ, zero, suc, length, take, drop, get_or, set, ltb}
pub use Rattle.std.proofs.Common.{sym, ap, subst, ◌∙◌, add-zero, add-suc, arith, length-take, length-drop, drop-cons, get_or-set_same, ltb-false, lt-ltb, le-ltb, eqb-true, rules}

-- What the files of this crate use of the libraries, under one name
pub use Rattle.std.specs.Prelude.{refl, ℤ, Bool, true, false, not, List, [], ℕ, suc, zero, get_or, length, replicate, take, drop, leb, ltb, eqb, pos, negsuc}
pub use Rattle.std.proofs.Common.{sym, ap, ◌∙◌, append-nil, add-zero, div-one, mod-eq_of_lt, le_of_suc-le-suc, not-suc-le-zero, add-one, arith, take-suc, length-take-le, drop-cons, get_or-take, take_all, pow_mono, lt-ltb, le-leb, ltb-true, leb-true, leb-false, eq-eqb, ne_eqb, eqb-true}
pub use Rattle.std.proofs.lemmas.Bool.{not-true, not-false}

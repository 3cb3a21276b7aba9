-- What the files of this crate use of the libraries, under one name
pub use Rattle.std.specs.Prelude.{refl, true, List, ℕ, zero, suc, get_or, length, set, replicate, take, drop}
pub use Rattle.std.proofs.Common.{sym, ap, ◌∙◌, append-nil, append_assoc, add-suc, add_assoc, not-suc-le-zero, add-one, sub-one, arith, length-set, get_or-set_same, get_or-set_other, ne_eqb, lt-ltb, le-leb, eq-eqb, le-ltb, rules}
pub use Rattle.std.proofs.lemmas.List.{replicate-append-replicate, length-replicate}
pub use Rattle.std.proofs.lemmas.Bool.{lt-leb}

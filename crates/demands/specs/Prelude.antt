-- What the files of this crate use of the libraries, under one name
pub use Rattle.std.specs.Prelude.{refl, Bool, true, false, List, [], ℕ, min, max, zero, suc, length, get_or, take, drop, ltb, eqb}
pub use Rattle.std.proofs.Common.{sym, ap, ◌∙◌, subst, ap₂, append-nil, append_assoc, add-zero, add-one, arith, length-take, length-drop, drop_of_length-le, length-append, take-append-drop, take_all, drop-drop, drop-cons, get_or-drop, take-add, length-take-le, eq-eqb, rules}
pub use Rattle.std.proofs.Math.Nat.{zero-min, min-zero, suc-min-suc}
pub use Rattle.std.proofs.Math.ListN.{get_or-eq_default as List·getD-eq-default}
pub use Rattle.std.proofs.Math.Seq.{take-append_seam, drop-append_seam, take-append-add, drop-append-add}
pub use Rattle.std.proofs.lemmas.List.{drop-append-le}

-- What the files of this crate use of the libraries, under one name
pub use Rattle.std.specs.Prelude.{refl, Bool, true, false, not, List, [], map, ℕ, suc, zero, get_or, set, replicate, length, drop, take, ltb, eqb, leb, ℤ, pos, negsuc, neg_ℤ}
pub use Rattle.std.proofs.Common.{sym, ap, ◌∙◌, subst, ap₂, true≢false, append_assoc, append-nil, zero-le, suc-le-suc, le_refl, le_trans, zero-add, add-zero, suc-add, add_assoc, le_of_suc-le-suc, not-suc-le-zero, mul_assoc, pow-suc, zero-mul, mul-zero, add-mul, mod-lt, mul-le-mul_right, arith, pow-add, pow_pos, shr-shr, length-append, length-set, length-take, drop_of_length-le, length-drop, take_all, take-suc-set, drop-drop, le-leb, leb-true, leb-false, eqb-true, ne_eqb, lt-ltb, le-ltb, ltb-true, ltb-false}
pub use Rattle.std.proofs.lemmas.Bool.{false≢true, lt-leb, not-false}
pub use Rattle.std.proofs.Math.Bool.{and-false}
pub use Rattle.std.proofs.Math.Nat.{sub-zero, zero-sub, suc-sub-suc, mod-one, zero-div, div-eq_of_lt, mul-add-div_right}
pub use Rattle.std.proofs.lemmas.Nat.{mod-pow-add}
pub use Rattle.std.proofs.Math.ListN.{get_or-eq_default as List·getD-eq-default}
pub use Rattle.std.proofs.Math.Seq.{take-append_seam, take-append-add, take-nil, drop-append-add, drop-append_seam}
pub use Rattle.std.proofs.lemmas.List.{take-append-le, drop-append-le}
pub use Rattle.std.proofs.Math.IntN.{sub_ℕ, +ℤ_assoc, +ℤ_comm, neg_ℤ-+ℤ}
pub use Rattle.std.specs.Int.Signed.{le_z, lt_z}

-- What the files of this crate use of the libraries, under one name
pub use Rattle.std.specs.Prelude.{refl, Bool, true, false, List, [], ℕ, zero, suc, length, set, ltb}
pub use Rattle.std.proofs.Common.{sym, ap, ◌∙◌, append_assoc, pow-suc, div-lt_iff_lt-mul, arith, length-append, lt-ltb, le-ltb, ltb-false}

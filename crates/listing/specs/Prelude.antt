-- What the files of this crate use of the libraries, under one name
pub use Rattle.std.specs.Prelude.{refl, List, [], ℕ, zero, suc, min, get_or, length, take, drop, ltb}
pub use Rattle.std.proofs.Common.{sym, le-div_iff_mul-le, add-one, arith, drop-drop, length-take-le, lt-ltb, le-ltb}
pub use Rattle.std.proofs.Math.Nat.{min-le_right}

-- What the files of this crate use of the libraries, under one name
pub use mathlib.Core.Path.{refl, sym, ap, ◌∙◌}
pub use mathlib.Core.Bool.{Bool, true, false}
pub use mathlib.Core.List.{List, []}
pub use Prim.Native.Nat.{ℕ, zero, suc}
pub use native.Mathlib.Nat.{add-zero}
pub use native.Mathlib.Numerals.{add-one, sub-one}
pub use native.Mathlib.Omega.{arith}
pub use lib.ListN.{length, get_or, drop, drop_of_length-le}
pub use lib.Seq.{drop-cons, get_or-drop}
pub use lib.Dec.{ltb, leb}
pub use borrow.Author.Tests.{lt-ltb, le-ltb, leb-true, leb-false, ne_eqb}
pub use borrow.Author.Rules.{rules}

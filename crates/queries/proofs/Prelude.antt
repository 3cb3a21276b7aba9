-- What the files of this crate use of the libraries, under one name
pub use mathlib.Core.Path.{refl, sym, ap, ◌∙◌}
pub use mathlib.Core.Bool.{true, false, Bool}
pub use mathlib.Core.List.{List}
pub use Prim.Native.Nat.{ℕ, min}
pub use native.Mathlib.Omega.{arith}
pub use lib.ListN.{length, take, drop, length-drop, drop_of_length-le}
pub use lib.Seq.{take_all}
pub use lib.Dec.{leb}
pub use borrow.Author.Tests.{leb-true, leb-false, lt-leb, le-leb}
pub use borrow.Author.Rules.{rules}

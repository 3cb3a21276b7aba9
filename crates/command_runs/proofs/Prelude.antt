-- What the files of this crate use of the libraries, under one name
pub use mathlib.Core.Path.{refl, sym, ap, ◌∙◌, subst}
pub use mathlib.Core.Bool.{Bool, true, false}
pub use mathlib.Core.List.{List}
pub use Prim.Native.Nat.{ℕ, zero, suc}
pub use native.Mathlib.Numerals.{add-one}
pub use native.Mathlib.Omega.{arith}
pub use lib.ListN.{length, take, drop, get_or}
pub use borrow.Author.Tests.{lt-ltb, le-ltb, ltb-true, not-false}
pub use borrow.Author.Rules.{rules}

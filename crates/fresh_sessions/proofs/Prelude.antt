-- What the files of this crate use of the libraries, under one name
pub use mathlib.Core.Path.{ap}
pub use mathlib.Core.List.{List}
pub use Prim.Native.Nat.{ℕ}
pub use borrow.Author.Tests.{ne_eqb, eq-eqb}
pub use borrow.Author.Rules.{rules}

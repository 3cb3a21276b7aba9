-- What the files of this crate use of the libraries, under one name
pub use mathlib.Core.Path.{refl, sym, ap, ◌∙◌, subst}
pub use mathlib.Core.Bool.{Bool, true, false}
pub use mathlib.Core.List.{List, append-nil, append_assoc}
pub use Prim.Native.Nat.{ℕ, suc}
pub use native.Mathlib.Nat.{add-zero, zero-add, sub-zero, add-suc, suc-add}
pub use native.Mathlib.Numerals.{add-one}
pub use native.Mathlib.Omega.{arith}
pub use lib.ListN.{length, take, drop, length-append, take-append-drop}
pub use lib.Seq.{take_at, drop_at, length-take-le, drop-drop}
pub use lib.Dec.{ltb}
pub use borrow.Author.Tests.{ltb-false}
pub use borrow.Author.Rules.{rules}

-- What the files of this crate use of the libraries, under one name
pub use Rattle.std.specs.Prelude.{List, [], ℕ, length, take, drop, set}
pub use Rattle.std.proofs.Common.{ap, ◌∙◌, ap₂, append_assoc, add-zero, zero-add, add_assoc, le_trans, le-add_right, arith, length-append, length-take, length-drop, take-append-drop, length-take-le, take_at, drop-drop}
pub use Rattle.std.proofs.Math.Numerals.{towards_suc}
pub use Rattle.std.proofs.lemmas.List.Edits.{sets, sets-eq}

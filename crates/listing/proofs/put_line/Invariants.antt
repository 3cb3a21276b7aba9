use Rattle.digits.specs.Decimal.{Put}
use Rattle.listing.specs.Text.{fields_to}
use Rattle.std.specs.Prelude.{◌≡◌, ◌+◌, ◌*◌, ◌≤◌}
use Rattle.listing.specs.Prelude.{List, ℕ, length}
use Rattle.listing.proofs.put_line.Given as goal

-- Whatever text the head was put into, the fields so far are put into it
abbrev pub invariant-loop-i : goal.invariant-loop-i
invariant-loop-i m =
    ((l : List ℕ) → m.at ≤ length l → Put m.at (fields_to m.bytes 8) l m.initial.text m.initial.to → Put m.at (fields_to m.bytes m.i) l m.text m.to)
    × (m.to + 64 ≤ m.at + 12 * m.i) × (length m.text ≡ length m.initial.text)

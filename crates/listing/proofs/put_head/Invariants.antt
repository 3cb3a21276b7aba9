use Rattle.std.specs.Prelude.{◌≡◌, ◌+◌, ◌*◌, ◌≤◌}
use Rattle.listing.specs.Prelude.{List, ℕ, length}
use Rattle.digits.specs.Decimal.{Put}
use Rattle.listing.specs.Text.{fields_to}
use Rattle.listing.proofs.put_head.Given as goal

-- i fields are put, a blank after each
pub record Headed (text₀ : List ℕ) (at : ℕ) (bytes text : List ℕ) (to i : ℕ) : Type 0 where
  pub fields : Put at (fields_to bytes i) text₀ text to
  pub short : to ≤ at + 4 * i
  pub long : length text ≡ length text₀

abbrev pub invariant-loop-i : goal.invariant-loop-i
invariant-loop-i l = Headed l.initial.text l.at l.bytes l.text l.to l.i

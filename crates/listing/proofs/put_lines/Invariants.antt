use Rattle.std.specs.Prelude.{◌≡◌, ◌*◌, ◌≤◌}
use Rattle.listing.specs.Prelude.{List, ℕ, length}
use Rattle.digits.specs.Decimal.{Put}
use Rattle.listing.specs.Text.{lines_to}
use Rattle.listing.proofs.put_lines.Given as goal

-- The lines of i records are put
pub record Listed (text₀ out : List ℕ) (text : List ℕ) (to i : ℕ) : Type 0 where
  pub lines : Put 0 (lines_to out i) text₀ text to
  pub short : to ≤ 128 * i
  pub long : length text ≡ length text₀

abbrev pub invariant-loop-i : goal.invariant-loop-i
invariant-loop-i l = Listed l.initial.text l.out l.text l.to l.i

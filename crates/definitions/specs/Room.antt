-- Whether a new cell can be taken, and whether two bytes can be stored after the last cell
use Rattle.std.specs.Prelude.{◌-◌, Result, Ok, Err}
use Rattle.definitions.specs.Prelude.{ℕ, List, ltb, eqb}
use Rattle.rules.specs.declared.Refusal.{Refusal}
use Rattle.rules.specs.declared.Refusal.TheVariants.{StoreFull, OutOfRange}
use Rattle.rules.specs.Numbers.{most_bytes}
use Rattle.rules.specs.Choice.{pick}
use Rattle.rules.specs.Store.{next_of, count_of, good_count}

unfoldable pub free_cell : List ℕ → Result (Unit {0}) Refusal
free_cell st = pick (eqb (next_of st 0) 0) (Err StoreFull) (Ok tt)

unfoldable pub room_for_two : List ℕ → ℕ → Result (Unit {0}) Refusal
room_for_two st last =
    pick (eqb last 0) (free_cell st)
    (pick (good_count (count_of st last)) (pick (ltb (count_of st last) (most_bytes - 1)) (Ok tt) (free_cell st)) (Err OutOfRange))

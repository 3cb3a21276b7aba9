-- An answer to freeing a body, with the store left, as the rule has it
use Rattle.std.specs.Prelude.{Result, Ok, Err}
use Rattle.store.specs.Prelude.{ℕ, List}
use Rattle.rules.specs.declared.Refusal.{Refusal}
use Rattle.rules.specs.Store.{Freeing, NotFreed, Freed}

abbrev pub freeing_of : Result (Unit {0}) Refusal → List ℕ → Freeing
freeing_of (Ok u) st = Freed st
freeing_of (Err r) st = NotFreed r

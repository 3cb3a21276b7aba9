-- An answer to storing a byte, with the first cells and the store left, as the rule has it
use Rattle.std.specs.Prelude.{Result, Ok, Err}
use Rattle.definitions.specs.Prelude.{ℕ, List}
use Rattle.rules.specs.declared.Definition.{Definition}
use Rattle.rules.specs.declared.Refusal.{Refusal}
use Rattle.rules.specs.Store.{Filling, Storing, NotStored, Stored}

abbrev pub filling_of : Definition → List ℕ → List ℕ → Filling
filling_of d firsts st = record { firsts = firsts; definition = d; store = st }

abbrev pub storing_of : Result Definition Refusal → List ℕ → List ℕ → Storing
storing_of (Ok d) firsts st = Stored (filling_of d firsts st)
storing_of (Err r) firsts st = NotStored r

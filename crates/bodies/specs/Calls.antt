-- Calls of empty bodies
use Rattle.std.specs.Prelude.{◌+◌, ◌<◌, ◌≡◌}
use Rattle.bodies.specs.Prelude.{ℕ, List, get_or}
use Rattle.rules.specs.Store.{first_of}
use Rattle.store.specs.Lent.{IsName}

-- "zero for an empty body" is the first cell of the name
abbrev pub NamesEmpty : List ℕ → ℕ → Type 0
NamesEmpty firsts b = (IsName b) × (first_of firsts b ≡ 0)

-- So many bytes from a place on, each the name of an empty body
abbrev pub CallsEmpty : List ℕ → List ℕ → ℕ → ℕ → Type 0
CallsEmpty firsts bytes from n = (i : ℕ) → i < n → NamesEmpty firsts (get_or bytes (from + i) 0)

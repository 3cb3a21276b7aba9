-- Bytes written at a place of the output
use Rattle.std.specs.Prelude.{◌+◌, ◌∷◌, ◌++◌}
use Rattle.records.specs.Prelude.{ℕ, List, [], length, take, drop}
use Rattle.rules.specs.declared.Record.{Record}
use Rattle.rules.specs.Record.{word}
use Rattle.records.specs.declared.Head.{Head}

-- The list with bs at a place, every other byte kept
unfoldable pub overwrite : ℕ → List ℕ → List ℕ → List ℕ
overwrite at bs l = take at l ++ (bs ++ drop (at + length bs) l)

-- The bytes before the coordinates
abbrev pub head_of : Record → List ℕ
head_of r = r.kind ∷ r.flags ∷ r.mode ∷ r.colour0 ∷ r.colour1 ∷ r.colour2 ∷ r.set ∷ r.code ∷ []

-- The same as two numbers
abbrev pub head_bytes : Head → List ℕ
head_bytes h = word h.first ++ word h.second

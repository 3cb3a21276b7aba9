-- What the functions ask of what they are lent
use Rattle.std.specs.Prelude.{◌≤◌, ◌≡◌}
use Rattle.store.specs.Prelude.{ℕ, List, length}
use Rattle.rules.specs.Numbers.{store_size}

-- "a store of exactly 8,192 bytes"
abbrev pub Sized : List ℕ → Type 0
Sized st = length st ≡ store_size

-- "96 names (2/0 to 7/15)"
abbrev pub IsName : ℕ → Type 0
IsName name = (32 ≤ name) × (name ≤ 127)

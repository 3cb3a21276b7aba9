-- Runs: consecutive bytes of a definition
use Rattle.std.specs.Prelude.{◌+◌, ◌≤◌, ◌≡◌}
use Rattle.store.specs.Prelude.{ℕ, zero, suc, List, get_or}
use Rattle.rules.specs.Numbers.{esc}
use Rattle.rules.specs.Store.{Filling, Stored, set_body_byte, store_byte}
use Rattle.store.specs.Each.{Each}

-- A byte that a definition stores as it is: neither ESC nor over 127
abbrev pub Plain : ℕ → Type 0
Plain b = (b ≤ 127) × (b ≡ esc → ⊥)

-- So many bytes from a place on, set as body bytes of a cell one after the other; its count stays
pub data Laid (bytes : List ℕ) (from cell place : ℕ) (st : List ℕ) : ℕ → List ℕ → Type 0 where
  none : Laid bytes from cell place st zero st
  more : {n : ℕ} {st₁ : List ℕ} → Laid bytes from cell place st n st₁ → Plain (get_or bytes (from + n) 0)
      → Laid bytes from cell place st (suc n) (set_body_byte st₁ cell (place + n) (get_or bytes (from + n) 0))

-- A byte stored by itself, and so many from a place on
abbrev pub StoresByte : ℕ → Filling → Filling → Type 0
StoresByte b f g = (Plain b) × (store_byte f b ≡ Stored g)

abbrev pub Stores : List ℕ → ℕ → Filling → ℕ → Filling → Type 0
Stores bytes from f n g = Each StoresByte bytes from f n g

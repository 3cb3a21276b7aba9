-- Consecutive bytes, each a step of its own
use Rattle.std.specs.Prelude.{◌+◌}
use Rattle.store.specs.Prelude.{ℕ, zero, suc, List, get_or}

-- So many bytes from a place on lead from x to another state
pub data Each {X : Type 0} (Step : ℕ → X → X → Type 0) (bytes : List ℕ) (from : ℕ) (x : X) : ℕ → X → Type 0 where
  none : Each Step bytes from x zero x
  more : {n : ℕ} {y z : X} → Each Step bytes from x n y → Step (get_or bytes (from + n) 0) y z → Each Step bytes from x (suc n) z

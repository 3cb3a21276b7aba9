-- Laws of runs: bytes laid into a cell.
use Rattle.std.specs.Prelude.{◌≡◌, ◌+◌, ◌*◌, ◌≤◌}
use Rattle.store.specs.Prelude.{List, ℕ, zero, suc, add-one, arith, take, get_or, set}
use Rattle.rules.specs.Store.{set_body_byte}
use Rattle.store.specs.Runs.{Plain, Laid, none, more}
use Rattle.store.proofs.EachLaws.{first_at}

-- One byte more is laid
pub laid_on : (bytes st st₁ : List ℕ) (cell place at n : ℕ) → at ≡ 32 * cell + 2 + place → Laid bytes 0 cell place st n st₁
    → Plain (get_or bytes n 0) → Laid bytes 0 cell place st (n + 1) (set st₁ (at + n) (get_or bytes n 0))
unfolding set_body_byte
laid_on bytes st st₁ cell place at n e l p =
    let i : at + n ≡ 32 * cell + 2 + (place + n) = omega arith in
    let k : 0 + n ≡ n = omega arith in
    let laid = more l (rw k p) in
    rw (add-one, i) (rw k at laid)

-- Bytes laid from the first of a list are laid from the list
pub laid_first : (bytes : List ℕ) (most cell place : ℕ) (st : List ℕ) (n : ℕ) (st₁ : List ℕ) → n ≤ most
    → Laid (take most bytes) 0 cell place st n st₁ → Laid bytes 0 cell place st n st₁
laid_first bytes most cell place st zero st₁ h none = none
laid_first bytes most cell place st (suc n) st₁ h (more {st₁ = st₀} l p) =
    let same = first_at bytes most n (omega arith) in
    rw same (more (laid_first bytes most cell place st n st₀ (omega arith) l) (rw same at p))

-- Laws of chains: the walk to the last cell, and freeing from what the calls hand back.
use Rattle.std.specs.Prelude.{◌≡◌, ◌-◌, ◌<◌, ◌≤◌, Some, None}
use Rattle.store.specs.Prelude.{refl, List, ℕ, zero, suc, not-suc-le-zero, sub-one, eq-eqb, ne_eqb}
use Rattle.rules.specs.declared.Refusal.TheVariants.{OutOfRange}
use Rattle.rules.specs.Store.{next_of, set_next, last_cell, NotFreed, Freed, free_to, free_body}

-- The walk: no cell more to look at, the end of the chain, a cell further
pub last_none : (k : ℕ) (st : List ℕ) (c : ℕ) → k ≤ 0 → last_cell k st c ≡ None
unfolding last_cell
last_none zero st c h = refl
last_none (suc k) st c h = absurd (not-suc-le-zero h)

pub last_here : (k : ℕ) (st : List ℕ) (c : ℕ) → 0 < k → next_of st c ≡ 0 → last_cell k st c ≡ Some c
unfolding last_cell
last_here zero st c h e = absurd (not-suc-le-zero h)
last_here (suc k) st c h e = simp (eq-eqb (next_of st c) 0 e)

pub last_on : (k : ℕ) (st : List ℕ) (c next : ℕ) → 0 < k → next ≡ next_of st c → (next ≡ 0 → ⊥) → last_cell k st c ≡ last_cell (k - 1) st next
unfolding last_cell
last_on zero st c next h e nz = absurd (not-suc-le-zero h)
last_on (suc k) st c next h e nz = simp (← e, ne_eqb next 0 nz, sub-one)

-- Freeing an empty body, a chain that is too long, a chain that ends
pub free_none : (st : List ℕ) (first : ℕ) → first ≡ 0 → Freed st ≡ free_body first st
unfolding free_body
free_none st first e = simp (eq-eqb first 0 e)

pub free_long : (st : List ℕ) (first : ℕ) → (first ≡ 0 → ⊥) → None ≡ last_cell 255 st first → NotFreed OutOfRange ≡ free_body first st
unfolding free_body free_to
free_long st first nz e = simp (ne_eqb first 0 nz, ← e)

pub free_ends : (st st₁ st₂ : List ℕ) (first last free : ℕ) → (first ≡ 0 → ⊥) → Some last ≡ last_cell 255 st first → free ≡ next_of st 0
    → st₁ ≡ set_next st last free → st₂ ≡ set_next st₁ 0 first → Freed st₂ ≡ free_body first st
unfolding free_body free_to
free_ends st st₁ st₂ first last free nz e ef e₁ e₂ = simp (ne_eqb first 0 nz, ← e, ← ef, e₂, e₁)

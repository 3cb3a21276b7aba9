-- Laws of runs: bytes laid into a cell whose count is then set are bytes stored one after the other.
use Rattle.std.specs.Prelude.{◌≡◌, ◌∷◌, ◌+◌, ◌*◌, ◌<◌, ◌≤◌}
use Rattle.definitions.specs.Prelude.{refl, ap, ◌∙◌, true, List, [], ℕ, zero, suc, arith, length, get_or, set, set-get_or}
use Rattle.rules.specs.Store.{count_of, set_count, good_count, set_body_byte, Filling, Stored, store_in_last, store_byte}
use Rattle.store.specs.Lent.{Sized}
use Rattle.store.specs.Each.{none as Each-none, more as each_more}
use Rattle.store.specs.Runs.{Laid, Stores, none, more}
use Rattle.definitions.specs.Storing.{filling_of}
use Rattle.store.proofs.CellLaws.{good_least, good_between, length-set_body_byte, count-set_count}
use Rattle.definitions.proofs.StoringLaws.{held, byte_in}

-- Of a byte that is set twice the first value is lost, and bytes at two places may be set in either order
set_twice : (l : List ℕ) (i v w : ℕ) → set (set l i v) i w ≡ set l i w
set_twice [] i v w = refl
set_twice (x ∷ l) zero v w = refl
set_twice (x ∷ l) (suc i) v w = ap (λ (r : List ℕ). x ∷ r) (set_twice l i v w)

set_swap : (l : List ℕ) (i j v w : ℕ) → (i ≡ j → ⊥) → set (set l i v) j w ≡ set (set l j w) i v
set_swap [] i j v w h = refl
set_swap (x ∷ l) zero zero v w h = absurd (h refl)
set_swap (x ∷ l) zero (suc j) v w h = refl
set_swap (x ∷ l) (suc i) zero v w h = refl
set_swap (x ∷ l) (suc i) (suc j) v w h = ap (λ (r : List ℕ). x ∷ r) (set_swap l i j v w (λ e. h (ap suc e)))

-- A count that is set before the next body byte and again after it
count_again : (st : List ℕ) (c i b v w : ℕ) → set_count (set_body_byte (set_count st c v) c i b) c w ≡ set_count (set_body_byte st c i b) c w
unfolding set_count set_body_byte
count_again st c i b v w =
    ap (λ (r : List ℕ). set r (32 * c + 1) w) (set_swap st (32 * c + 1) (32 * c + 2 + i) v b (omega arith))
    ∙ set_twice (set st (32 * c + 2 + i) b) (32 * c + 1) v w

count_same : (st : List ℕ) (c : ℕ) → set_count st c (count_of st c) ≡ st
unfolding set_count count_of
count_same st c = set-get_or st (32 * c + 1) 0

module _ (bytes : List ℕ) (from last name : ℕ) (firsts st : List ℕ) where
  -- The definition with a store
  abbrev within : List ℕ → Filling
  within s = filling_of (record { name = name; last = last }) firsts s

  laid_length : (place n : ℕ) (st₁ : List ℕ) → Laid bytes from last place st n st₁ → length st₁ ≡ length st
  laid_length place zero st₁ none = refl
  laid_length place (suc n) st₁ (more {st₁ = st₀} l p) = length-set_body_byte st₀ last (place + n) (get_or bytes (from + n) 0) ∙ laid_length place n st₀ l

  module _ (sized : Sized st) (low : last < 256) (nz : last ≡ 0 → ⊥) where
    -- One byte more is stored, where the cell holds so many
    store_on : (s : List ℕ) (k b : ℕ) → Sized s → 1 ≤ k → k < 30 → store_byte (within (set_count s last k)) b ≡ Stored (within (set_count (set_body_byte s last k b) last (suc k)))
    unfolding store_in_last
    store_on s k b e lo hi =
        let g = within (set_count s last k) in
        let h : held g ≡ k = count-set_count s last k e low in
        byte_in g b nz (good_between (held g) (omega (arith, h)) (omega (arith, h))) (omega (arith, h))
        ∙ ap (λ (m : ℕ). store_in_last m g b) h
        ∙ ap (λ (t : List ℕ). Stored (within t)) (count_again s last k b k (suc k))

    laid_stores : (n : ℕ) (st₁ : List ℕ) → 1 ≤ count_of st last → count_of st last + n ≤ 30 → Laid bytes from last (count_of st last) st n st₁
        → Stores bytes from (within st) n (within (set_count st₁ last (count_of st last + n)))
    laid_stores zero st₁ lo hi none =
        let k : count_of st last + 0 ≡ count_of st last = omega arith in
        rw (k, count_same st last) Each-none
    laid_stores (suc n) st₁ lo hi (more {st₁ = st₀} l p) =
        let place = count_of st last in
        let k : place + suc n ≡ suc (place + n) = omega arith in
        rw k (each_more (laid_stores n st₀ lo (omega arith) l) (p, store_on st₀ (place + n) (get_or bytes (from + n) 0) (laid_length place n st₀ l ∙ sized) (omega arith) (omega arith)))

    -- From what the calls hand back
    pub run_stored : (count n : ℕ) (st₁ st₂ : List ℕ) → count ≡ count_of st last → good_count count ≡ true → count + n ≤ 30
        → Laid bytes from last count st n st₁ → st₂ ≡ set_count st₁ last (count + n) → Stores bytes from (within st) n (within st₂)
    run_stored count n st₁ st₂ ec good hi l e =
        rw (e, ec) (laid_stores n st₁ (good_least (count_of st last) (rw ec at good)) (rw ec at hi) (rw ec at l))

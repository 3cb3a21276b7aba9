-- Laws of storing a byte: the rule by its cases, and from what the calls hand back.
use Rattle.std.specs.Prelude.{◌≡◌, ◌+◌, ◌<◌, ◌≤◌, Result, Ok}
use Rattle.definitions.specs.Prelude.{sym, ap, ◌∙◌, true, false, List, ℕ, add-one, eq-eqb, ne_eqb, lt-ltb, le-ltb, eqb}
use Rattle.rules.specs.declared.Definition.{Definition}
use Rattle.rules.specs.declared.Refusal.{Refusal}
use Rattle.rules.specs.declared.Refusal.TheVariants.{StoreFull, OutOfRange}
use Rattle.rules.specs.Store.{next_of, set_next, count_of, set_count, good_count, set_body_byte, set_first, Filling, NotStored, Stored, take_cell, link_cell, store_in_new, store_in_last, store_byte}
use Rattle.rules.proofs.CodingRanges.{StoringKeeps, store_keeps}
use Rattle.definitions.specs.Storing.{filling_of, storing_of}

-- The count of the last cell, and the front of the free chain
abbrev pub held : Filling → ℕ
held f = count_of f.store f.definition.last

abbrev pub front : Filling → ℕ
front f = next_of f.store 0

-- The cases of a byte
module _ (f : Filling) (b : ℕ) where
  pub byte_first : f.definition.last ≡ 0 → store_byte f b ≡ store_in_new (front f) f b
  unfolding store_byte
  byte_first e = simp (eq-eqb f.definition.last 0 e)

  module _ (nz : f.definition.last ≡ 0 → ⊥) where
    pub byte_bad : good_count (held f) ≡ false → store_byte f b ≡ NotStored OutOfRange
    unfolding store_byte
    byte_bad g = simp (ne_eqb f.definition.last 0 nz, g)

    pub byte_in : good_count (held f) ≡ true → held f < 30 → store_byte f b ≡ store_in_last (held f) f b
    unfolding store_byte
    byte_in g h = simp (ne_eqb f.definition.last 0 nz, g, lt-ltb (held f) 30 h)

    pub byte_full : good_count (held f) ≡ true → 30 ≤ held f → store_byte f b ≡ store_in_new (front f) f b
    unfolding store_byte
    byte_full g h = simp (ne_eqb f.definition.last 0 nz, g, le-ltb (held f) 30 h)

  pub new_none : (n : ℕ) → n ≡ 0 → store_in_new n f b ≡ NotStored StoreFull
  unfolding store_in_new
  new_none n e = simp (eq-eqb n 0 e)

-- A cell is taken
pub taken : (st st₁ st₂ st₃ : List ℕ) (n rest : ℕ) → rest ≡ next_of st n → st₁ ≡ set_next st 0 rest → st₂ ≡ set_next st₁ n 0 → st₃ ≡ set_count st₂ n 1
    → st₃ ≡ take_cell n st
unfolding take_cell
taken st st₁ st₂ st₃ n rest er e₁ e₂ e₃ = simp (e₃, e₂, e₁, er)

module _ (d : Definition) (firsts st : List ℕ) where
  -- A cell is linked, as the first or after the last
  pub link_first : (firsts₁ : List ℕ) (n : ℕ) → d.last ≡ 0 → firsts₁ ≡ set_first firsts d.name n
      → filling_of (record { name = d.name; last = n }) firsts₁ st ≡ link_cell (eqb d.last 0) n (filling_of d firsts st)
  unfolding link_cell
  link_first firsts₁ n l e = simp (eq-eqb d.last 0 l, e)

  pub link_more : (st₁ : List ℕ) (n : ℕ) → (d.last ≡ 0 → ⊥) → st₁ ≡ set_next st d.last n
      → filling_of (record { name = d.name; last = n }) firsts st₁ ≡ link_cell (eqb d.last 0) n (filling_of d firsts st)
  unfolding link_cell
  link_more st₁ n nz e = simp (ne_eqb d.last 0 nz, e)

  -- A byte is stored, in a new cell or in the last
  pub new_stored : (n b : ℕ) (st₁ st₂ st₃ firsts₁ : List ℕ) (longer : Definition) → (n ≡ 0 → ⊥) → st₁ ≡ take_cell n st
      → filling_of longer firsts₁ st₂ ≡ link_cell (eqb d.last 0) n (filling_of d firsts st₁) → st₃ ≡ set_body_byte st₂ n 0 b
      → Stored (filling_of longer firsts₁ st₃) ≡ store_in_new n (filling_of d firsts st) b
  unfolding store_in_new
  new_stored n b st₁ st₂ st₃ firsts₁ longer nz e₁ e₂ e₃ = simp (ne_eqb n 0 nz, ← e₁, ← e₂, e₃)

  pub in_stored : (n b : ℕ) (st₁ st₂ : List ℕ) → st₁ ≡ set_body_byte st d.last n b → st₂ ≡ set_count st₁ d.last (n + 1)
      → Stored (filling_of d firsts st₂) ≡ store_in_last n (filling_of d firsts st) b
  unfolding store_in_last
  in_stored n b st₁ st₂ e₁ e₂ = simp (e₂, e₁, add-one)

-- From an answer: where the byte is stored the name of the definition stays, where it is refused all stays
module _ (f : Filling) (b : ℕ) (a : Result Definition Refusal) (firsts st : List ℕ) (d : Definition) (e : storing_of a firsts st ≡ store_byte f b) (done : a ≡ Ok d) where
  pub same_name : d.name ≡ f.definition.name
  same_name =
      let kept : StoringKeeps f (storing_of (Ok d) firsts st) = rw (← e, done) at (store_keeps f b) in
      kept.1

  pub byte_stored : store_byte f b ≡ Stored (filling_of (record { name = f.definition.name; last = d.last }) firsts st)
  byte_stored =
      sym e
      ∙ ap (λ (x : Result Definition Refusal). storing_of x firsts st) done
      ∙ ap (λ (n : ℕ). Stored (filling_of (record { name = n; last = d.last }) firsts st)) same_name

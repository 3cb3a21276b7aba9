-- Laws of ESC and another byte: the test made first tells how both end.
use Rattle.std.specs.Prelude.{◌≡◌, ◌<◌, ◌≤◌, Result, Ok, Err, OnErr}
use Rattle.definitions.specs.Prelude.{refl, sym, ap, ◌∙◌, Bool, true, false, List, ℕ, suc, arith, eqb-true, eqb-false, ltb-true, ltb-false, ne_eqb, eqb, ltb}
use Rattle.rules.specs.declared.Definition.{Definition}
use Rattle.rules.specs.declared.Refusal.{Refusal}
use Rattle.rules.specs.declared.Refusal.TheVariants.{StoreFull, OutOfRange}
use Rattle.rules.specs.Numbers.{esc}
use Rattle.rules.specs.Store.{next_of, set_next, count_of, set_count, good_count, set_body_byte, Filling, Storing, NotStored, Stored, on_store, take_cell, link_cell, store_in_new, store_in_last, store_byte, store_next, store_escape_and}
use Rattle.rules.proofs.Bools.{by_test, pick_by}
use Rattle.store.specs.Lent.{Sized}
use Rattle.definitions.specs.Storing.{filling_of, storing_of}
use Rattle.definitions.specs.Room.{free_cell, room_for_two}
use Rattle.store.proofs.CellLaws.{good_most, good_between, length-set_next, length-set_body_byte, count-set_count, count-set_next, count-set_body_byte, next-set_count, next-set_body_byte}
use Rattle.definitions.proofs.StoringLaws.{held, front, byte_first, byte_bad, byte_in, byte_full, new_none}

-- A storing that is not refused
abbrev Accepted : Storing → Type 0
Accepted (NotStored r) = ⊥
Accepted (Stored f) = Unit

accepted_keeps : (a : Result Definition Refusal) (firsts st : List ℕ) → Accepted (storing_of a firsts st) → (P : Type 0) → OnErr a P
accepted_keeps (Ok d) firsts st h P = tt
accepted_keeps (Err r) firsts st h P = absurd h

-- What the test says of both bytes
abbrev Ending : Filling → ℕ → Result (Unit {0}) Refusal → Type 0
Ending f b (Ok u) = Accepted (store_escape_and f b)
Ending f b (Err r) = store_escape_and f b ≡ NotStored r

-- The filling with the byte in the last cell, of count n, and in the new cell n
abbrev in_last : ℕ → Filling → ℕ → Filling
in_last n f b = on_store (λ st. set_count (set_body_byte st f.definition.last n b) f.definition.last (suc n)) f

abbrev in_new : ℕ → Filling → ℕ → Filling
in_new n f b = on_store (λ st. set_body_byte st n 0 b) (link_cell (eqb f.definition.last 0) n (on_store (take_cell n) f))

module _ (f : Filling) (b : ℕ) where
  in_last_lem : (n : ℕ) → store_in_last n f b ≡ Stored (in_last n f b)
  unfolding store_in_last
  in_last_lem n = refl

  in_new_lem : (n : ℕ) → (n ≡ 0 → ⊥) → store_in_new n f b ≡ Stored (in_new n f b)
  unfolding store_in_new
  in_new_lem n nz = simp (ne_eqb n 0 nz)

  -- The first byte is refused, or the second decides
  refused_first : (r : Refusal) → store_byte f esc ≡ NotStored r → store_escape_and f b ≡ NotStored r
  unfolding store_escape_and store_next
  refused_first r e = simp e

  second_decides : (g : Filling) → store_byte f esc ≡ Stored g → store_escape_and f b ≡ store_byte g b
  unfolding store_escape_and store_next
  second_decides g e = simp e

-- A linked cell is the last one, with its count
module _ (n : ℕ) (f : Filling) where
  link_last : (t : Bool) → (link_cell t n f).definition.last ≡ n
  unfolding link_cell
  link_last true = refl
  link_last false = refl

  link_count : (t : Bool) → count_of (link_cell t n f).store n ≡ count_of f.store n
  unfolding link_cell
  link_count true = refl
  link_count false = count-set_next f.store f.definition.last n n

-- A byte after one that left room in the last cell, and after one that filled it
module _ (g : Filling) (b : ℕ) (nz : g.definition.last ≡ 0 → ⊥) where
  after_room : 1 ≤ held g → held g < 30 → Accepted (store_byte g b)
  after_room lo hi = rw (byte_in g b nz (good_between (held g) lo (omega arith)) hi ∙ in_last_lem g b (held g)) tt

  after_full : held g ≡ 30 → store_byte g b ≡ store_in_new (front g) g b
  after_full e = byte_full g b nz (good_between (held g) (omega arith) (omega arith)) (omega arith)

module _ (f : Filling) (b : ℕ) (sized : Sized f.store) (low : f.definition.last < 256) (free : front f < 256) where
  -- The first byte takes a new cell, which then holds one byte
  new_last : (in_new (front f) f esc).definition.last ≡ front f
  new_last = link_last (front f) (on_store (take_cell (front f)) f) (eqb f.definition.last 0)

  new_count : count_of (in_new (front f) f esc).store (front f) ≡ 1
  unfolding take_cell
  new_count =
      let n = front f in
      let t = on_store (take_cell n) f in
      let linked = link_cell (eqb f.definition.last 0) n t in
      count-set_body_byte linked.store n 0 esc n (omega arith)
      ∙ link_count n t (eqb f.definition.last 0)
      ∙ count-set_count (set_next (set_next f.store 0 (next_of f.store n)) n 0) n 1 (simp length-set_next sized) free

  two_new : store_byte f esc ≡ store_in_new (front f) f esc → Ending f b (free_cell f.store)
  unfolding free_cell
  two_new e =
      let g = in_new (front f) f esc in
      let one : held g ≡ 1 = ap (count_of g.store) new_last ∙ new_count in
      pick_by (Ending f b) (eqb (front f) 0)
      (λ z. refused_first f b StoreFull (e ∙ new_none f esc (front f) (eqb-true (front f) 0 z)))
      (λ z.
      let nz = eqb-false (front f) 0 z in
      rw (second_decides f b g (e ∙ in_new_lem f esc (front f) nz)) (after_room g b (λ q. nz (sym new_last ∙ q)) (omega arith) (omega arith)))

  -- The first byte goes into the last cell
  module _ (nz : f.definition.last ≡ 0 → ⊥) (good : good_count (held f) ≡ true) (room : held f < 30) where
    in_count : held (in_last (held f) f esc) ≡ suc (held f)
    in_count = count-set_count (set_body_byte f.store f.definition.last (held f) esc) f.definition.last _ (simp length-set_body_byte sized) low

    in_front : front (in_last (held f) f esc) ≡ front f
    in_front =
        next-set_count (set_body_byte f.store f.definition.last (held f) esc) f.definition.last _ 0
        ∙ next-set_body_byte f.store f.definition.last (held f) esc 0 room

    in_decides : store_escape_and f b ≡ store_byte (in_last (held f) f esc) b
    in_decides = second_decides f b _ (byte_in f esc nz good room ∙ in_last_lem f esc (held f))

    -- Both bytes do, or the second takes a new cell
    two_in : held f < 29 → Accepted (store_escape_and f b)
    two_in h = rw in_decides (after_room (in_last (held f) f esc) b nz (omega (arith, in_count)) (omega (arith, in_count)))

    two_split : held f ≡ 29 → Ending f b (free_cell f.store)
    unfolding free_cell
    two_split h =
        let g = in_last (held f) f esc in
        let full = in_decides ∙ after_full g b nz (omega (arith, in_count)) in
        pick_by (Ending f b) (eqb (front f) 0)
        (λ z. full ∙ new_none g b (front g) (in_front ∙ eqb-true (front f) 0 z))
        (λ z. rw (full ∙ in_new_lem g b (front g) (λ q. eqb-false (front f) 0 z (sym in_front ∙ q))) tt)

  -- The last cell has room for one byte or for none
  two_over : (f.definition.last ≡ 0 → ⊥) → good_count (held f) ≡ true → 29 ≤ held f → Ending f b (free_cell f.store)
  two_over nz good h =
      by_test (eqb (held f) 29)
      (λ e. two_split nz good (omega (arith, eqb-true (held f) 29 e)) (eqb-true (held f) 29 e))
      (λ e. two_new (byte_full f esc nz good (omega (arith, good_most (held f) good, eqb-false (held f) 29 e))))

  -- The test tells how both bytes end
  two : Ending f b (room_for_two f.store f.definition.last)
  unfolding room_for_two
  two =
      pick_by (Ending f b) (eqb f.definition.last 0) (λ e. two_new (byte_first f esc (eqb-true f.definition.last 0 e)))
      (λ e.
      let nz = eqb-false f.definition.last 0 e in
      pick_by (Ending f b) (good_count (held f))
      (λ good.
      pick_by (Ending f b) (ltb (held f) 29)
      (λ h. two_in nz good (omega (arith, ltb-true (held f) 29 h)) (ltb-true (held f) 29 h))
      (λ h. two_over nz good (ltb-false (held f) 29 h)))
      (λ bad. refused_first f b OutOfRange (byte_bad f esc nz bad)))

  -- From what the calls hand back
  pub two_refused : (r : Refusal) → Err r ≡ room_for_two f.store f.definition.last → NotStored r ≡ store_escape_and f b
  two_refused r e = sym (rw (← e) at two)

  module _ (room : Ok tt ≡ room_for_two f.store f.definition.last) (a : Result Definition Refusal) (firsts st : List ℕ) (e : storing_of a firsts st ≡ store_byte f esc) where
    accepted : Accepted (store_escape_and f b)
    accepted = rw (← room) at two

    pub first_stored : (r : Refusal) → a ≡ Err r → ⊥
    first_stored r refused = rw (refused_first f b r (sym (rw refused at e))) at accepted

    pub both_stored : (d : Definition) (a' : Result Definition Refusal) (firsts' st' : List ℕ) → a ≡ Ok d → storing_of a' firsts' st' ≡ store_byte (filling_of d firsts st) b
        → (storing_of a' firsts' st' ≡ store_escape_and f b) × OnErr a' ((firsts' ≡ f.firsts) × (st' ≡ f.store))
    both_stored d a' firsts' st' done e' =
        let all = e' ∙ sym (second_decides f b (filling_of d firsts st) (sym (rw done at e))) in
        let kept = rw (← all) at accepted in
        (all, accepted_keeps a' firsts' st' kept ((firsts' ≡ f.firsts) × (st' ≡ f.store)))

-- A stretch of the store: none, or what is left of a cell that can be read
use Rattle.std.specs.Prelude.{◌+◌, ◌*◌, ◌<◌, ◌≤◌, ◌≡◌}
use Rattle.store.specs.Prelude.{ℕ, add-suc, add_assoc, arith, true, List, length, ne_eqb, lt-ltb, le-leb}
use Rattle.rules.specs.declared.Cursor.{Cursor}
use Rattle.rules.specs.Numbers.{store_size, most_bytes}
use Rattle.rules.specs.Store.{count_of, body_byte, good_count}
use Rattle.rules.specs.Bodies.{has_left, read_cell, read_body}
use Rattle.store.specs.Stretch.{on_by, Gives}
use Rattle.store.proofs.CellLaws.{good_most}

module _ (st : List ℕ) (x : Cursor) where
  abbrev pub Stretches : ℕ → ℕ → Type 0
  Stretches from to =
      ((k : ℕ) → from + k < to → Gives st x from k)
      × (((from ≤ to) × (to ≤ length st))
      × (from < to → x.place + to ≤ from + most_bytes))

  pub stretches_none : Stretches 0 0
  stretches_none = (λ k h. absurd (omega arith), ((omega arith, omega arith), λ h. absurd (omega arith)))

  gives_left : (k n : ℕ) → n ≡ count_of st x.cell → (x.cell ≡ 0 → ⊥) → x.place + k < n → has_left st (on_by k x) ≡ true
  unfolding has_left
  gives_left k n e h l = rw (ne_eqb x.cell 0 h, ← e, lt-ltb (x.place + k) n l)

  pub stretches_cell : (n from to : ℕ) → length st ≡ store_size → x.cell < 256 → (x.cell ≡ 0 → ⊥) → n ≡ count_of st x.cell → good_count n ≡ true → x.place < n
      → from ≡ 32 * x.cell + 2 + x.place → to ≡ 32 * x.cell + 2 + n → Stretches from to
  unfolding read_body read_cell body_byte
  stretches_cell n from to size cell h e g l f t =
      let m = good_most n g in (
        λ k i.
            let j : x.place + k < n = omega arith in
            record {
              left = gives_left k n e h j;
              read = rw (← e, g, le-leb (x.place + k) n (omega arith), lt-ltb (x.place + k) n j, f, add-suc x.place k, ← add_assoc (32 * x.cell + 2) x.place k);
            },
        ((omega arith, omega arith), λ i. omega arith),
      )

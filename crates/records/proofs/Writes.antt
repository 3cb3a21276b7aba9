-- Bytes written at a place of the output
use Rattle.std.specs.Prelude.{◌≡◌, ◌++◌, ◌+◌, ◌≤◌}
use Rattle.records.specs.Prelude.{ap, ◌∙◌, List, [], append_assoc, ℕ, add-zero, zero-add, add_assoc, arith, length, take, drop, length-append, length-take, length-drop, take-append-drop, sets, sets-eq, length-take-le, take_at, drop-drop}
use Rattle.rules.proofs.Lists.{drop_past}
use Rattle.records.specs.Bytes.{overwrite}

-- Stores one after the other
pub stored : (bs l : List ℕ) (at : ℕ) → at + length bs ≤ length l → sets l at bs ≡ overwrite at bs l
unfolding overwrite
stored bs l at h = sets-eq bs l at h ∙ append_assoc (take at l) bs (drop (at + length bs) l)

-- The length is kept
pub overwrite_length : (bs l : List ℕ) (at : ℕ) → at + length bs ≤ length l → length (overwrite at bs l) ≡ length l
unfolding overwrite
overwrite_length bs l at h = simp (length-append, length-take, length-drop) (omega arith)

-- Bytes written right after others are written with them
pub overwrite_next : (bs cs l : List ℕ) (at : ℕ) → at ≤ length l → overwrite (at + length bs) cs (overwrite at bs l) ≡ overwrite at (bs ++ cs) l
unfolding overwrite
overwrite_next bs cs l at h =
    let n = at + length bs in
    let e : length (take at l ++ bs) ≡ n = length-append (take at l) bs ∙ ap (λ (k : ℕ). k + length bs) (length-take-le at l h) in
    rw (
      ← append_assoc (take at l) bs (drop n l),
      take_at (take at l ++ bs) (drop n l) n e,
      drop_past (take at l ++ bs) (drop n l) n (length cs) e,
      drop-drop (length cs) n l,
      length-append bs cs,
      ← add_assoc at (length bs) (length cs),
    )
    (simp append_assoc)

-- The same where each output is known by an equation
pub then : (l : List ℕ) {l' l'' : List ℕ} (bs cs : List ℕ) (at : ℕ) → at ≤ length l → l' ≡ overwrite at bs l → l'' ≡ overwrite (at + length bs) cs l' → l'' ≡ overwrite at (bs ++ cs) l
then l bs cs at h e f = f ∙ ap (overwrite (at + length bs) cs) e ∙ overwrite_next bs cs l at h

-- From the start
pub overwrite_start : (bs l : List ℕ) → overwrite 0 bs l ≡ bs ++ drop (length bs) l
unfolding overwrite
overwrite_start bs l = rw zero-add

-- Nothing written
pub overwrite_none : (l : List ℕ) (at : ℕ) → overwrite at [] l ≡ l
unfolding overwrite
overwrite_none l at = rw add-zero (take-append-drop at l)

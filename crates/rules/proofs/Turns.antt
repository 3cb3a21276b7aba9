-- What is known of a step that a turn takes
use Rattle.std.specs.Prelude.{◌≤◌, ◌≡◌}
use Rattle.rules.specs.Prelude.{ℕ, zero, suc, arith, refl, sym, subst, Bool, true, false, List, length, drop}
use Rattle.rules.specs.Numbers.{room_for_step}
use Rattle.rules.specs.Record.{bytes_of_all}
use Rattle.rules.specs.Step.{State, remove_spent, Source, FromBody, FromPiece, Sought, NothingLeft, Spoilt, Found, seek, Move, Stops, Goes, interpret}
use Rattle.rules.specs.Turn.{Taken, Turn, Ends, Takes, on_move, on_sought, turn}
use Rattle.rules.specs.Reading.{consumed_by, Valid}
use Rattle.rules.proofs.RecordCount.{records_length}
use Rattle.rules.proofs.Steps.{Later, later_then, remove_later, step_later, step_most, seek_rest}

-- A step from a valid state: the output had room for it, its records fit there, its byte was there, and it is one step on
pub record Advance (full : Bool) (w : State) (bs : List ℕ) (t : Taken) : Type 0 where
  pub free : full ≡ false
  pub few : length (bytes_of_all t.records) ≤ room_for_step
  pub some : consumed_by t.source 0 ≤ length bs
  pub rest : t.rest ≡ drop (consumed_by t.source 0) bs
  pub later : Later 1 w t.after

abbrev Known : {n : ℕ} → Bool → State → List ℕ → Turn n → Type 0
Known full w bs (Ends a v) = Unit {0}
Known full w bs (Takes t) = Advance full w bs t

consumed_some : (s : Source) (n m : ℕ) → m ≡ consumed_by s n → consumed_by s 0 ≤ m
consumed_some FromBody n m e = omega arith
consumed_some FromPiece n m e = omega arith

module _ (w : State) (bs : List ℕ) (valid : Valid w) where
  move_known : (n : ℕ) {b : ℕ} {v : State} {s : Source} {r : List ℕ} (m : Move) → seek (remove_spent w) bs ≡ Found b v s r → interpret v s b ≡ m
      → Known {n = suc n} false w bs (on_move m b s r (remove_spent w))
  unfolding on_move
  move_known n (Stops x) q e = tt
  move_known n {b = b} {v = v} {s = s} {r = r} (Goes u rs) q e =
      let k = step_most v s b e in
      let l = records_length rs in
      let a = remove_later w in
      let t = seek_rest (remove_spent w) bs (Found b v s r) q in
      record {
        free = refl;
        few = omega arith;
        some = consumed_some s (length r) (length bs) t.1;
        rest = sym (t.0 0);
        later = later_then a (step_later (remove_spent w) bs (a.valid valid) q e);
      }

  turn_known : (full : Bool) (n : ℕ) → Known full w bs (turn full n w bs)
  unfolding turn on_sought
  turn_known full n = by full n (seek (remove_spent w) bs) refl
    where
      by : (t : Bool) (m : ℕ) (q : Sought) → seek (remove_spent w) bs ≡ q → Known t w bs (on_sought t m q (remove_spent w))
      by t m NothingLeft q = tt
      by true m Spoilt q = tt
      by true m (Found b v s r) q = tt
      by false zero Spoilt q = tt
      by false zero (Found b v s r) q = tt
      by false (suc m) Spoilt q = tt
      by false (suc m) (Found b v s r) q = move_known m (interpret v s b) q refl

  pub turn_advances : (full : Bool) {n : ℕ} {t : Taken} → turn full (suc n) w bs ≡ Takes t → Advance full w bs t
  turn_advances full {n} e = subst (Known full w bs) e (turn_known full (suc n))

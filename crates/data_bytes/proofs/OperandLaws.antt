-- Data bytes and the operands they make, carried out.
use Rattle.std.specs.Prelude.{◌≤◌, ◌<◌, ◌≡◌, Ok, Err}
use Rattle.std.proofs.Common.{ℕ, suc, sym, ap, ◌∙◌, true, false, List, [], length, eq-eqb, ne_eqb, lt-ltb, le-ltb}
use Rattle.rules.specs.declared.Drawing.{Drawing}
use Rattle.rules.specs.declared.Row.{Row}
use Rattle.rules.specs.declared.Role.{Role}
use Rattle.rules.specs.Operands.{begun}
use Rattle.rules.specs.Drawing.{length_of, Outcome, NotDrawn, Draw, apply, next_operand, role_due, apply_begun, with_byte, loose_byte, take_byte, data_byte}
use Rattle.rules.proofs.Bools.{false_true, true_false, pick_yes, pick_no}
use Rattle.figures.specs.declared.TooManyVertices.{TooManyVertices}
use Rattle.figures.specs.Carried.{carried_of, Carried, carry}
use Rattle.figures.proofs.Carrying.{then_refused, then_drawn}

-- The operand that is begun, applied with the answer x
module _ (r : Row) (d : Drawing) (at : ℕ) (l : List ℕ) (n : Role) (x : Carried) (e : n ≡ role_due r d) (a : x ≡ carry (apply n r (begun d.pen.operand) d) d at l) where
  applied : Outcome
  applied = apply (role_due r d) r (begun d.pen.operand) d

  pub begun_refused : x.refused ≡ true → x ≡ carry (apply_begun r d) d at l
  unfolding apply_begun applied
  begun_refused h = then_refused applied _ d at l x (rw e at a) h

  -- The next one is due
  pub begun_drawn : (y : Carried) → at ≤ length l → x.refused ≡ false
      → y ≡ carry (Draw (next_operand r.pattern x.drawing) []) x.drawing x.at x.output → y ≡ carry (apply_begun r d) d at l
  unfolding apply_begun applied
  begun_drawn y b h f = then_drawn applied _ d at l x y (rw e at a) h b tt f

-- A byte for an operand of n bytes
module _ (r : Row) (b : ℕ) (d : Drawing) (x : Role) (n : ℕ) (e : x ≡ role_due r d) (f : n ≡ length_of x d.look.domain) where
  data_due : data_byte r b d ≡ take_byte n r b d
  unfolding data_byte
  data_due = ap (λ (k : ℕ). take_byte k r b d) (ap (λ (y : Role). length_of y d.look.domain) (sym e) ∙ sym f)

  -- It makes none
  pub data_loose : n ≡ 0 → data_byte r b d ≡ loose_byte x r.filled b d
  unfolding take_byte
  data_loose h = data_due ∙ pick_yes _ _ (eq-eqb n 0 h) ∙ ap (λ (y : Role). loose_byte y r.filled b d) (sym e)

  -- It joins, and is not the last
  pub data_joined : (n ≡ 0 → ⊥) → suc d.pen.operand.count < n → data_byte r b d ≡ Draw (with_byte b d) []
  unfolding take_byte
  data_joined h g = data_due ∙ pick_no _ _ (ne_eqb n 0 h) ∙ pick_yes _ _ (lt-ltb _ n g)

  -- It is the last
  pub data_last : (n ≡ 0 → ⊥) → n ≤ suc d.pen.operand.count → data_byte r b d ≡ apply_begun r (with_byte b d)
  unfolding take_byte
  data_last h g = data_due ∙ pick_no _ _ (ne_eqb n 0 h) ∙ pick_no _ _ (le-ltb _ n g)

-- The last byte is applied, joined: it left the state c and the output m
module _ (r : Row) (b : ℕ) (d c : Drawing) (at : ℕ) (l m : List ℕ) where
  abbrev joined : Drawing
  joined = with_byte b d

  -- A refusal leaves the state without the byte
  pub last_refused : (e : TooManyVertices) → carried_of (Err e) at c m ≡ carry (apply_begun r joined) joined at l
      → data_byte r b d ≡ apply_begun r joined → carried_of (Err e) at d m ≡ carry (data_byte r b d) d at l
  unfolding carry
  last_refused e h k = by (apply_begun r joined) h ∙ ap (λ (y : Outcome). carry y d at l) (sym k)
    where
      by : (o : Outcome) → carried_of (Err e) at c m ≡ carry o joined at l → carried_of (Err e) at d m ≡ carry o d at l
      by (NotDrawn q) h = ap (λ (y : Carried). record { refused = true; drawing = d; at = y.at; output = y.output }) h
      by (Draw f rs) h = true_false (ap (λ (y : Carried). y.refused) h)

  -- What is drawn does not depend on the state before
  pub last_drawn : (n : ℕ) → carried_of (Ok n) at c m ≡ carry (apply_begun r joined) joined at l
      → data_byte r b d ≡ apply_begun r joined → carried_of (Ok n) at c m ≡ carry (data_byte r b d) d at l
  unfolding carry
  last_drawn n h k = by (apply_begun r joined) h ∙ ap (λ (y : Outcome). carry y d at l) (sym k)
    where
      by : (o : Outcome) → carried_of (Ok n) at c m ≡ carry o joined at l → carried_of (Ok n) at c m ≡ carry o d at l
      by (NotDrawn q) h = false_true (ap (λ (y : Carried). y.refused) h)
      by (Draw f rs) h = h

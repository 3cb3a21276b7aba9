-- Closing, carried out.
use Rattle.std.specs.Prelude.{◌+◌, ◌≤◌, ◌≡◌}
use Rattle.std.proofs.Common.{ℕ, zero-le, arith, refl, sym, ap, ◌∙◌, Bool, true, false, List, [], length, eqb, ltb, eq-eqb, ne_eqb}
use Rattle.rules.specs.declared.Drawing.{Drawing}
use Rattle.rules.specs.declared.Row.{Row}
use Rattle.rules.specs.declared.Role.{Role}
use Rattle.rules.specs.Numbers.{record_size, origin}
use Rattle.rules.specs.Drawing.{row_of, with_command, with_operand, no_operand, Outcome, NotDrawn, Draw, prepend, and_then, arc_to, role_due, apply_begun, complete, closing_edge, finish, new_command, close}
use Rattle.rules.proofs.Bools.{pick_yes, pick_no, pick_all}
use Rattle.rules.proofs.DrawingRanges.{finish_all}
use Rattle.rules.proofs.RecordCount.{AtMost, begun_most, close_most}
use Rattle.figures.specs.Carried.{Carried, carry}
use Rattle.figures.proofs.Carrying.{Draws, carry_none, carry_most, carry_length, then_refused, then_drawn}

module _ (r : Row) (d : Drawing) (at : ℕ) (l : List ℕ) where
  -- No operand is begun, or one is
  pub none_begun : d.pen.operand.count ≡ 0 → carry (Draw d []) d at l ≡ carry (complete r d) d at l
  unfolding complete
  none_begun h = ap (λ (o : Outcome). carry o d at l) (sym (pick_yes _ _ (eq-eqb d.pen.operand.count 0 h)))

  pub nothing_begun : d.pen.operand.count ≡ 0 → record { refused = false; drawing = d; at = at; output = l } ≡ carry (complete r d) d at l
  nothing_begun h = sym (carry_none d d at l) ∙ none_begun h

  pub some_begun : (d.pen.operand.count ≡ 0 → ⊥) → carry (apply_begun r d) d at l ≡ carry (complete r d) d at l
  unfolding complete
  some_begun h = ap (λ (o : Outcome). carry o d at l) (sym (pick_no _ _ (ne_eqb d.pen.operand.count 0 h)))

  -- Completing writes at most one record
  complete_most : AtMost 1 (complete r d)
  unfolding complete
  complete_most = pick_all (AtMost 1) (eqb d.pen.operand.count 0) zero-le (begun_most r d)

  pub complete_place : (x : Carried) → x ≡ carry (complete r d) d at l → x.at ≤ at + 40
  complete_place x e = omega (arith, carry_most 1 (complete r d) d at l complete_most, ap (λ (y : Carried). y.at) e)

  pub complete_length : (x : Carried) → at + record_size ≤ length l → x ≡ carry (complete r d) d at l → length x.output ≡ length l
  complete_length x h e = ap (λ (y : Carried). length y.output) e ∙ carry_length 1 (complete r d) d at l complete_most h

-- Closing writes at most two
pub close_place : (d : Drawing) (at : ℕ) (l : List ℕ) (x : Carried) → x ≡ carry (close d) d at l → x.at ≤ at + 80
close_place d at l x e = omega (arith, carry_most 2 (close d) d at l (close_most d), ap (λ (y : Carried). y.at) e)

-- After the begun operand closing refuses no more
then_draws : (o : Outcome) (k : Drawing → Outcome) → Draws o → ((e : Drawing) → Draws (k e)) → Draws (and_then o k)
unfolding and_then
then_draws (NotDrawn r) k p f = p
then_draws (Draw d rs) k p f = by (k d) (f d)
  where
    by : (o : Outcome) → Draws o → Draws (prepend rs o)
    by (NotDrawn r) q = q
    by (Draw e qs) q = tt

pub finish_draws : (x : Role) (filled : Bool) (d : Drawing) → Draws (finish x filled d)
unfolding arc_to closing_edge
finish_draws x filled d = finish_all Draws x filled d tt tt (pick_all Draws (ltb 1 d.command.vertices) tt tt) tt (λ n. tt)

-- An outcome that draws is not answered by a refusal
draws_so : (o : Outcome) (d : Drawing) (at : ℕ) (l : List ℕ) (x : Carried) → Draws o → x ≡ carry o d at l → x.refused ≡ false
unfolding carry
draws_so (NotDrawn r) d at l x w e = absurd w
draws_so (Draw f rs) d at l x w e = ap (λ (y : Carried). y.refused) e

-- No command open, no operand begun
abbrev pub shut : Drawing → Drawing
shut d = with_operand no_operand (with_command (new_command 0 origin) d)

-- What closing does after a begun operand
abbrev finished : Row → Drawing → Outcome
finished r d = and_then (finish (role_due r d) r.filled d) (λ e. Draw (shut e) [])

-- A begun operand completed with the answer x
module _ (r : Row) (d : Drawing) (at : ℕ) (l : List ℕ) (x : Carried) (s : r ≡ row_of d.command.opcode) (e : x ≡ carry (complete r d) d at l) where
  closing : and_then (complete r d) (finished r) ≡ close d
  unfolding close
  closing = rw s

  pub close_refused : x.refused ≡ true → x ≡ carry (close d) d at l
  close_refused h = rw closing at (then_refused (complete r d) (finished r) d at l x e h)

  -- Finished with the answer y
  pub close_drawn : (n : Role) (y : Carried) → at + record_size ≤ length l → x.refused ≡ false → n ≡ role_due r x.drawing
      → y ≡ carry (finish n r.filled x.drawing) x.drawing x.at x.output
      → carry (Draw (shut y.drawing) []) y.drawing y.at y.output ≡ carry (close d) d at l
  close_drawn n y b h i f =
      let p = complete_place r d at l x e in
      let q = complete_length r d at l x b e in
      let c = x.drawing in
      let o = finish (role_due r c) r.filled c in
      let w = finish_draws (role_due r c) r.filled c in
      let g : y ≡ carry o c x.at x.output = rw i at f in
      let z = then_drawn o (λ a. Draw (shut a) []) c x.at x.output y _ g (draws_so o c x.at x.output y w g) (omega arith) tt refl in
      rw closing at (then_drawn (complete r d) (finished r) d at l x _ e h (omega arith) (then_draws o (λ a. Draw (shut a) []) w (λ a. tt)) z)

-- The codes of a data byte, carried out.
use Rattle.std.specs.Prelude.{◌+◌, ◌≤◌, ◌≡◌}
use Rattle.std.proofs.Common.{ℕ, Bool, true, false, List, refl, sym, ap, ◌∙◌, subst, ltb-true, ltb-false}
use Rattle.rules.specs.declared.Command.{Command}
use Rattle.rules.specs.declared.Drawing.{Drawing}
use Rattle.rules.specs.declared.Outline.{Outline}
use Rattle.rules.specs.declared.Outline.TheVariants.{Line, Polygon}
use Rattle.rules.specs.declared.Pen.{Pen}
use Rattle.rules.specs.Numbers.{most_vertices}
use Rattle.rules.specs.Increments.{codes, moves_in}
use Rattle.rules.specs.Drawing.{Outcome, Draw, command_of, apply_codes}
use Rattle.rules.proofs.Bools.{true_false}
use Rattle.rules.proofs.Outlines.{codes_refused}
use Rattle.figures.specs.Carried.{carry, carry_out, drawing_of}
use Rattle.figures.specs.Tracing.{moved_if}
use Rattle.figures.proofs.Carrying.{puts_carried}
use Rattle.outlines.specs.declared.changes.Trail.{Trail}
use Rattle.outlines.specs.declared.Inks.{Inks}
use Rattle.outlines.specs.declared.Coded.{Coded}
use Rattle.outlines.specs.Trails.{trail_of, on_trail, trail_after, moved_after, records_after, Inked, Follows, overflows, IsCodes}
use Rattle.outlines.proofs.CodeLaws.{codes_law}

module _ (o : Outline) (filled : Bool) (b : ℕ) (d : Drawing) (at : ℕ) (out : List ℕ) where
  abbrev begun : Trail
  begun = trail_of d.pen.point d.command

  -- A vertex too many
  pub byte_refused : (t : Trail) → t ≡ begun → d.command.vertices ≤ most_vertices → overflows o b t ≡ true
      → record { refused = true; drawing = d; at = at; output = out } ≡ carry_out (apply_codes o filled (codes b)) d at out
  unfolding carry
  byte_refused t e h k = by o (ap (overflows o b) (sym e) ∙ k)
    where
      by : (x : Outline) → overflows x b begun ≡ true
          → unfold carry in (record { refused = true; drawing = d; at = at; output = out } ≡ carry_out (apply_codes x filled (codes b)) d at out)
      by Line e = true_false (sym e)
      by Polygon e =
          ap (λ (y : Outcome). carry y d at out)
          (sym (codes_refused filled (codes b) d h (ltb-true most_vertices _ e)))

  -- None
  room : (x : Outline) → overflows x b begun ≡ false → x ≡ Polygon → d.command.vertices + moves_in Polygon (codes b) begun.changes ≤ most_vertices
  room x e p = ltb-false most_vertices _ (subst (λ (y : Outline). overflows y b begun ≡ false) p e)

  pub byte_drawn : (t : Trail) (x : Inks) (r : Coded) (left : List ℕ) (pen : Pen) (command : Command) → t ≡ begun
      → IsCodes d.command.due → Inked x o filled d.look → overflows o b t ≡ false
      → Follows o x (codes b) (record { at = at; moved = false; trail = t }) out r left
      → pen ≡ moved_if r.moved r.trail.point d.pen → command ≡ on_trail r.trail d.command
      → record { refused = false; drawing = drawing_of pen command d.look d.map; at = r.at; output = left }
      ≡ carry_out (apply_codes o filled (codes b)) d at out
  byte_drawn t x r left pen command e due i fits follows p k =
      let f = subst (λ (u : Trail). Follows o x (codes b) (record { at = at; moved = false; trail = u }) out r left) e follows in
      let c = d.command in
      let same : on_trail begun c ≡ c =
      λ j. command_of c.opcode (due j) c.vertices c.start c.kept c.noted in
      let law = codes_law o filled (codes b) begun d.pen c d.look d.map refl (room o (ap (overflows o b) (sym e) ∙ fits)) in
      let ends : drawing_of pen command d.look d.map ≡ drawing_of (moved_if (moved_after o (codes b) begun) (trail_after o (codes b) begun).point d.pen) (on_trail (trail_after o (codes b) begun) c) d.look d.map =
      (λ j. drawing_of (p j) (k j) d.look d.map) ∙ (λ j. drawing_of (moved_if (f.moved j) (f.trail j).point d.pen) (on_trail (f.trail j) c) d.look d.map) in
      let drew : apply_codes o filled (codes b) d ≡ Draw (drawing_of pen command d.look d.map) (records_after o filled (codes b) begun d.look) =
      ap (λ (z : Command). apply_codes o filled (codes b) (drawing_of d.pen z d.look d.map)) (sym same) ∙ law
      ∙ ap (λ (z : Drawing). Draw z (records_after o filled (codes b) begun d.look)) (sym ends) in
      puts_carried d (drawing_of pen command d.look d.map) at r.at out left drew (f.put filled d.look i)

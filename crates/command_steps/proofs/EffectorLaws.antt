-- A format effector that closes a command.
use Rattle.std.specs.Prelude.{◌+◌, ◌≤◌, ◌≡◌, ◌||◌, ◌∷◌}
use Rattle.command_steps.specs.Prelude.{ℕ, add-zero, refl, sym, ap, ◌∙◌, subst, Bool, true, false, List, [], length, get_or, lt-ltb}
use Rattle.rules.specs.declared.Action.{Action}
use Rattle.rules.specs.declared.Action.TheVariants.{Control, Format, Opcode}
use Rattle.rules.specs.declared.Command.{Command}
use Rattle.rules.specs.declared.Drawing.{Drawing}
use Rattle.rules.specs.declared.Effector.{Effector}
use Rattle.rules.specs.declared.Look.{Look}
use Rattle.rules.specs.declared.Operand.{Operand}
use Rattle.rules.specs.declared.Pen.{Pen}
use Rattle.rules.specs.declared.Point.{Point}
use Rattle.rules.specs.declared.Set.TheVariants.{Pdi}
use Rattle.rules.specs.declared.Text.{Text}
use Rattle.rules.specs.Numbers.{room_for_step}
use Rattle.rules.specs.Text.{formatted}
use Rattle.rules.specs.Drawing.{with_pen, no_operand, Outcome, NotDrawn, Draw, and_then, close, control_record, act}
use Rattle.rules.proofs.Bools.{pick_yes, true_false}
use Rattle.pens.specs.Tips.{caught_up, pen_of}
use Rattle.pens.specs.declared.tips.Tip.{Tip}
use Rattle.pens.proofs.TipLaws.{caught_follows}
use Rattle.figures.specs.Carried.{Carried, carry, drawing_of}
use Rattle.figures.specs.Tracing.{pen_at, moved_if}
use Rattle.drawing_runs.specs.Run.{ActsAs, none, standing}
use Rattle.drawing_runs.specs.Strokes.{rested}
use Rattle.line_runs.specs.Characters.{IsFormat}
use Rattle.drawing_runs.specs.Drew.{DrawsTo}
use Rattle.drawing_runs.proofs.ActsLaws.{format_acts}
use Rattle.command_steps.specs.declared.opening.Next.{Next}
use Rattle.command_steps.specs.Asked.{GoesOn}
use Rattle.command_steps.proofs.OpeningLaws.{run_step}

-- It does what a recorded control does, then moves the cursor
format_marked : (f : Effector) (b : ℕ) (d : Drawing) (at : ℕ) (out : List ℕ) (x : Carried) → x ≡ carry (act (Control b) d) d at out → x.refused ≡ false
    → record { refused = false; drawing = with_pen (formatted f x.drawing.pen) x.drawing; at = x.at; output = x.output } ≡ carry (act (Format f b) d) d at out
unfolding act carry and_then
format_marked f b d at out x e h = by (close d) e
  where
    moved : Carried → Carried
    moved z = record { refused = false; drawing = with_pen (formatted f z.drawing.pen) z.drawing; at = z.at; output = z.output }

    by : (o : Outcome) → x ≡ carry (and_then o (λ (g : Drawing). Draw g (control_record b g ∷ []))) d at out
        → moved x ≡ carry (and_then o (λ (g : Drawing). Draw (with_pen (formatted f g.pen) g) (control_record b g ∷ []))) d at out
    by (NotDrawn r) g = true_false (sym (ap (λ (z : Carried). z.refused) g) ∙ h)
    by (Draw g rs) k = ap moved k

-- The cursor follows the point that closing left, once
followed : (b v : Bool) (t : Text) (p q : Point) (o : Operand) → (v ≡ false → q ≡ p)
    → rested (moved_if v q (pen_at p (caught_up b p t) o)) ≡ record { point = q; text = caught_up (b || v) q t; operand = no_operand }
followed true true t p q o e = λ i. record { point = q; text = caught_follows true t p q i; operand = no_operand }
followed false true t p q o e = refl
followed true false t p q o e = λ i. record { point = sym (e refl) i; text = caught_up true (sym (e refl) i) t; operand = no_operand }
followed false false t p q o e = λ i. record { point = sym (e refl) i; text = t; operand = no_operand }

-- The byte at a place is read as such
pub format_runs : (bytes : List ℕ) (from : ℕ) (f : Effector) (t u : Text) (x y : Tip) (c : Command) (l : Look) (at : ℕ) (out : List ℕ) (n : Next) (out' : List ℕ) (w : Bool)
    → IsFormat f (get_or bytes from 0) → x.operand.count ≡ 0 → at + room_for_step ≤ length out
    → ((s : Text) (o : Operand) (m : List ℕ) → o.count ≡ 0 → GoesOn (get_or bytes from 0) x.point s o c l m at out n out')
    → (n.moved ≡ false → n.point ≡ x.point)
    → w ≡ (x.behind || n.moved)
    → pen_of u y ≡ formatted f (record { point = n.point; text = caught_up w n.point t; operand = no_operand })
    → DrawsTo Pdi bytes from t x c l at out (record { count = 1; at = n.at; left = y; command = n.command }) u out'
format_runs bytes from f t u x y c l at out n out' w is fresh room goes still e pen m =
    let b = get_or bytes from 0 in
    let s = caught_up x.behind x.point t in
    let d = drawing_of (pen_of t x) c l m in
    let q = rested (moved_if n.moved n.point (pen_of t x)) in
    let closed = goes s x.operand m fresh ∙ ap (λ (a : Action). carry (act a d) d at out) (pick_yes (Control b) (Opcode b) (lt-ltb b 32 is.0)) in
    let here : formatted f q ≡ pen_of u y =
    ap (formatted f) (followed x.behind n.moved t x.point n.point x.operand still)
    ∙ ap (λ (v : Bool). formatted f (record { point = n.point; text = caught_up v n.point t; operand = no_operand })) (sym e)
    ∙ sym pen in
    let left = ap (λ (z : Pen). standing z n.command l m n.at out') (sym here) ∙ format_marked f b d at out (standing q n.command l m n.at out') closed refl in
    let acts = subst (λ (j : ℕ). ActsAs Pdi (get_or bytes j 0) (Format f b)) (sym (add-zero from)) (format_acts Pdi f b is.0 is.1) in
    run_step (Format f b) (standing (pen_of u y) n.command l m n.at out') none acts room refl left

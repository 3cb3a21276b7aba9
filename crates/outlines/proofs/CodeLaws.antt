-- Codes as the rules apply them, by the trail.
use Rattle.std.specs.Prelude.{◌+◌, ◌≤◌, ◌<◌, ◌||◌, ◌∷◌, ◌≡◌}
use Rattle.std.proofs.Common.{ℕ, arith, Bool, true, false, not, List, [], refl, sym, ap, ◌∙◌, subst, eqb, lt-ltb, eqb-true}
use Rattle.rules.specs.declared.Command.{Command}
use Rattle.rules.specs.declared.Look.{Look}
use Rattle.rules.specs.declared.Outline.{Outline}
use Rattle.rules.specs.declared.Outline.TheVariants.{Line, Polygon}
use Rattle.rules.specs.declared.Pen.{Pen}
use Rattle.rules.specs.declared.Point.{Point}
use Rattle.rules.specs.Numbers.{most_vertices}
use Rattle.rules.specs.Choice.{pick}
use Rattle.rules.specs.Operands.{displaced, displaced_out}
use Rattle.rules.specs.Text.{follow}
use Rattle.rules.specs.Increments.{displacement, sign_changed, change_due, changes_after, moves_in}
use Rattle.rules.specs.Drawing.{Outcome, Draw, prepend, and_then, draw_figure, edge_by, flag_changed, changed, is_move, altered, move_by, apply_code, apply_codes}
use Rattle.rules.proofs.Bools.{true_false, by_test, pick_yes, pick_no}
use Rattle.rules.proofs.TextLaws.{follow_follow}
use Rattle.figures.specs.Carried.{drawing_of}
use Rattle.figures.specs.Tracing.{moved_if}
use Rattle.outlines.specs.declared.changes.Trail.{Trail}
use Rattle.outlines.specs.Trails.{on_trail, due_for, moves, moved_trail, altered_trail, next_trail, is_drawn, move_record, code_records, trail_after, moved_after, records_after}

-- Whether a change is due, and whether a code is a move
due_tells : (w : Bool) → change_due (due_for w) ≡ w
due_tells true = refl
due_tells false = refl

move_tells : (code : ℕ) (t : Trail) (c : Command) → is_move code (on_trail t c) ≡ moves code t
unfolding is_move
move_tells code t c = ap (λ (w : Bool). not (w || eqb code 0)) (due_tells t.changes)

-- A code that is no move
altered_tells : (o : Outline) (code : ℕ) (p v : Point) (off w : Bool) (n : ℕ) (c : Command) → not (w || eqb code 0) ≡ false
    → altered o code (on_trail (record { point = p; step = v; off = off; changes = w; vertices = n }) c)
    ≡ on_trail (altered_trail o code (record { point = p; step = v; off = off; changes = w; vertices = n })) c
unfolding altered changed flag_changed sign_changed
altered_tells o code p v off false n c e = by o (eqb code 0) refl e
  where
    by : (o : Outline) (z : Bool) → eqb code 0 ≡ z → not z ≡ false
        → unfold altered in (altered o code (on_trail (record { point = p; step = v; off = off; changes = false; vertices = n }) c)
        ≡ on_trail (altered_trail o code (record { point = p; step = v; off = off; changes = false; vertices = n })) c)
    by Line true h f = rw h
    by Polygon true h f = rw h
    by o false h f = true_false f
altered_tells o code p v off true n c e = by_test (eqb code 0) zeroes others
  where
    zeroes : eqb code 0 ≡ true
        → unfold altered in (altered o code (on_trail (record { point = p; step = v; off = off; changes = true; vertices = n }) c)
        ≡ on_trail (altered_trail o code (record { point = p; step = v; off = off; changes = true; vertices = n })) c)
    zeroes h = at o (eqb-true code 0 h)
      where
        at : (o : Outline) → code ≡ 0
            → unfold altered changed flag_changed sign_changed in (altered o code (on_trail (record { point = p; step = v; off = off; changes = true; vertices = n }) c)
            ≡ on_trail (altered_trail o code (record { point = p; step = v; off = off; changes = true; vertices = n })) c)
        at Line z = rw z
        at Polygon z = rw z

    others : eqb code 0 ≡ false
        → unfold altered in (altered o code (on_trail (record { point = p; step = v; off = off; changes = true; vertices = n }) c)
        ≡ on_trail (altered_trail o code (record { point = p; step = v; off = off; changes = true; vertices = n })) c)
    others h = at o
      where
        at : (o : Outline)
            → unfold altered changed flag_changed in (altered o code (on_trail (record { point = p; step = v; off = off; changes = true; vertices = n }) c)
            ≡ on_trail (altered_trail o code (record { point = p; step = v; off = off; changes = true; vertices = n })) c)
        at Line = rw h
        at Polygon = rw h

-- A move
move_law : (o : Outline) (filled : Bool) (code : ℕ) (t : Trail) (s : Pen) (c : Command) (l : Look) (m : List ℕ)
    → s.point ≡ t.point → (o ≡ Polygon → t.vertices < most_vertices)
    → move_by o filled (displacement code t.step) (drawing_of s (on_trail t c) l m)
    ≡ Draw (drawing_of (follow (displaced t.point (displacement code t.step)) s) (on_trail (moved_trail o code t) c) l m)
    (pick (is_drawn o t.off) (move_record o filled code t l ∷ []) [])
unfolding move_by draw_figure edge_by
move_law Line filled code t s c l m e h = rw e (by t.off refl)
  where
    v : Point
    v = displacement code t.step

    by : (off : Bool) → t.off ≡ off
        → unfold draw_figure in (draw_figure (pick t.off 0 2) filled (displaced_out t.point v) (displaced t.point v) (drawing_of (record { point = t.point; text = s.text; operand = s.operand }) (on_trail t c) l m)
        ≡ Draw (drawing_of (follow (displaced t.point v) s) (on_trail (moved_trail Line code t) c) l m) (pick (not t.off) (move_record Line filled code t l ∷ []) []))
    by true f = rw f
    by false f = rw f
move_law Polygon filled code t s c l m e h = rw e (pick_yes _ _ (lt-ltb t.vertices most_vertices (h refl)))

-- A code, unless it is a vertex too many
pub code_law : (o : Outline) (filled : Bool) (code : ℕ) (t : Trail) (s : Pen) (c : Command) (l : Look) (m : List ℕ)
    → s.point ≡ t.point → (o ≡ Polygon → moves code t ≡ true → t.vertices < most_vertices)
    → apply_code o filled code (drawing_of s (on_trail t c) l m)
    ≡ Draw (drawing_of (moved_if (moves code t) (next_trail o code t).point s) (on_trail (next_trail o code t) c) l m) (code_records o filled code t l)
unfolding apply_code
code_law o filled code t s c l m e room = by_test (moves code t) moved still
  where
    after : Bool → Outcome
    after b =
        Draw (drawing_of (moved_if b (pick b (moved_trail o code t) (altered_trail o code t)).point s) (on_trail (pick b (moved_trail o code t) (altered_trail o code t)) c) l m)
        (pick b (pick (is_drawn o t.off) (move_record o filled code t l ∷ []) []) [])

    moved : moves code t ≡ true → unfold apply_code in (apply_code o filled code (drawing_of s (on_trail t c) l m) ≡ after (moves code t))
    moved h = pick_yes _ _ (move_tells code t c ∙ h) ∙ move_law o filled code t s c l m e (λ p. room p h) ∙ ap after (sym h)

    still : moves code t ≡ false → unfold apply_code in (apply_code o filled code (drawing_of s (on_trail t c) l m) ≡ after (moves code t))
    still h =
        pick_no _ _ (move_tells code t c ∙ h)
        ∙ ap (λ (k : Command). Draw (drawing_of s k l m) []) (altered_tells o code t.point t.step t.off t.changes t.vertices c h)
        ∙ ap after (sym h)

-- Codes in turn

-- A point moved, and moved on or not
on_moved : (w b : Bool) (q r : Point) (s : Pen) → (b ≡ false → r ≡ q) → moved_if b r (moved_if w q s) ≡ moved_if (w || b) r s
on_moved false b q r s h = refl
on_moved true true q r s h = follow_follow r q s
on_moved true false q r s h = ap (λ (z : Point). follow z s) (sym (h refl))

or_left : (a b : Bool) → (a || b) ≡ false → a ≡ false
or_left true b e = e
or_left false b e = refl

or_right : (a b : Bool) → (a || b) ≡ false → b ≡ false
or_right true b e = true_false e
or_right false b e = e

-- A code that is no move leaves the point
next_still : (o : Outline) (code : ℕ) (t : Trail) → moves code t ≡ false → (next_trail o code t).point ≡ t.point
next_still o code t h = ap (λ (b : Bool). (pick b (moved_trail o code t) (altered_trail o code t)).point) h

still_after : (o : Outline) (cs : List ℕ) (t : Trail) → moved_after o cs t ≡ false → (trail_after o cs t).point ≡ t.point
still_after o [] t h = refl
still_after o (c ∷ cs) t h =
    still_after o cs (next_trail o c t) (or_right (moves c t) _ h) ∙ next_still o c t (or_left (moves c t) _ h)

moved_point : (w : Bool) (q : Point) (s : Pen) → (w ≡ false → s.point ≡ q) → (moved_if w q s).point ≡ q
moved_point true q s h = refl
moved_point false q s h = h refl

-- The vertices of a polygon, and whether a change is due, after a code
next_count : (code : ℕ) (t : Trail) → (next_trail Polygon code t).vertices ≡ t.vertices + pick (t.changes || eqb code 0) 0 1
next_count code t = by (t.changes || eqb code 0)
  where
    by : (b : Bool) → (pick (not b) (moved_trail Polygon code t) (altered_trail Polygon code t)).vertices ≡ t.vertices + pick b 0 1
    by true = omega arith
    by false = omega arith

next_changes : (code : ℕ) (t : Trail) → (next_trail Polygon code t).changes ≡ changes_after Polygon code t.changes
next_changes code t = by_test (moves code t) moved (λ h. ap (λ (b : Bool). (pick b (moved_trail Polygon code t) (altered_trail Polygon code t)).changes) h)
  where
    tells : (w z : Bool) → not (w || z) ≡ true → (w ≡ false) × (z ≡ false)
    tells true z e = true_false (sym e)
    tells false true e = true_false (sym e)
    tells false false e = (refl, refl)

    moved : moves code t ≡ true → (next_trail Polygon code t).changes ≡ changes_after Polygon code t.changes
    moved h =
        let p = tells t.changes (eqb code 0) h in
        ap (λ (b : Bool). (pick b (moved_trail Polygon code t) (altered_trail Polygon code t)).changes) h
        ∙ p.0 ∙ sym p.1 ∙ ap (changes_after Polygon code) (sym p.0)

-- Codes of which none is a vertex too many
pub codes_law : (o : Outline) (filled : Bool) (cs : List ℕ) (t : Trail) (s : Pen) (c : Command) (l : Look) (m : List ℕ)
    → s.point ≡ t.point → (o ≡ Polygon → t.vertices + moves_in Polygon cs t.changes ≤ most_vertices)
    → apply_codes o filled cs (drawing_of s (on_trail t c) l m)
    ≡ Draw (drawing_of (moved_if (moved_after o cs t) (trail_after o cs t).point s) (on_trail (trail_after o cs t) c) l m) (records_after o filled cs t l)
unfolding apply_codes and_then
codes_law o filled [] t s c l m e room = refl
codes_law o filled (n ∷ cs) t s c l m e room =
    let u = next_trail o n t in
    let w = moves n t in
    let q = moved_if w u.point s in
    ap (λ (x : Outcome). and_then x (apply_codes o filled cs)) (code_law o filled n t s c l m e now)
    ∙ ap (prepend (code_records o filled n t l)) (codes_law o filled cs u q c l m (moved_point w u.point s (λ h. e ∙ sym (next_still o n t h))) later)
    ∙ ap (λ (p : Pen). Draw (drawing_of p (on_trail (trail_after o cs u) c) l m) (records_after o filled (n ∷ cs) t l))
    (on_moved w (moved_after o cs u) u.point (trail_after o cs u).point s (still_after o cs u))
  where
    one : (b : Bool) → not b ≡ true → ◌≡◌ {A = ℕ} (pick b 0 1) 1
    one true h = true_false (sym h)
    one false h = refl

    now : o ≡ Polygon → moves n t ≡ true → t.vertices < most_vertices
    now p h = omega (arith, room p, one (t.changes || eqb n 0) h)

    later : o ≡ Polygon → (next_trail o n t).vertices + moves_in Polygon cs (next_trail o n t).changes ≤ most_vertices
    later p =
        subst (λ (x : Outline). (next_trail x n t).vertices + moves_in Polygon cs (next_trail x n t).changes ≤ most_vertices) (sym p)
        (rw (next_count n t, next_changes n t) (omega (arith, room p)))

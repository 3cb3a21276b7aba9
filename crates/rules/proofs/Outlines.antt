-- The codes of incremental outlines (02, 5/13): what a code leaves due, which moves a polygon takes and which byte it refuses, and what
-- a sign change does
use Rattle.std.specs.Prelude.{◌+◌, ◌^◌, ◌<◌, ◌≤◌, ◌≡◌, ◌||◌, ◌∷◌}
use Rattle.rules.specs.Prelude.{ℕ, suc, arith, refl, sym, ap, ap₂, ◌∙◌, subst, Bool, true, false, not, List, [], ltb, eqb, ne_eqb, ltb-true, ltb-false}
use Rattle.rules.specs.Types.{Point, Second, Third, Outline, Line, Polygon, Command, Drawing, Refusal, TooManyVertices}
use Rattle.rules.specs.Numbers.{most_vertices}
use Rattle.rules.specs.Choice.{pick}
use Rattle.rules.specs.Operands.{wrapped_sum}
use Rattle.rules.specs.Increments.{displacement, names_x, names_y, negated, sign_changed, change_due, changes_after, moves_in}
use Rattle.rules.specs.Drawing.{with_command, with_due, with_vertices, with_step, Outcome, NotDrawn, Draw, prepend, and_then}
use Rattle.rules.specs.Drawing.{draw_figure, edge_by, flag_changed, changed, is_move, altered, move_by, apply_code, apply_codes}
pub use Rattle.rules.specs.Statements.{Draws}
use Rattle.rules.specs.Statements.{RefusesWhole, SignChanges, ChangesSign}
use Rattle.rules.proofs.Bools.{pick_all, pick_by}
use Rattle.rules.proofs.DrawingRanges.{Drawn, drawn_both, first_refused, later_refused}

-- A code is a move, the 00 before a change, or a change
pub code_by : (P : Outcome → Type 0) (o : Outline) (filled : Bool) (c : ℕ) (d : Drawing)
    → (change_due d.command.due ≡ false → eqb c 0 ≡ false → P (move_by o filled (displacement c d.command.kept) d))
    → (change_due d.command.due ≡ false → eqb c 0 ≡ true → P (Draw (with_command (with_due Third d.command) d) []))
    → (change_due d.command.due ≡ true → P (Draw (with_command (changed o c d.command) d) []))
    → P (apply_code o filled c d)
unfolding apply_code is_move altered
code_by P o filled c d = by (change_due d.command.due) (eqb c 0)
  where
    by : {m : Outcome} {n k : Command} (t z : Bool)
        → (t ≡ false → z ≡ false → P m) → (t ≡ false → z ≡ true → P (Draw (with_command n d) []))
        → (t ≡ true → P (Draw (with_command k d) [])) → P (pick (not (t || z)) m (Draw (with_command (pick t k n) d) []))
    by false false p q r = p refl refl
    by false true p q r = q refl refl
    by true z p q r = r refl

-- A change of a polygon's draw flag ".. is treated as a null, ..": a change is still due
pub null_same : (k : Command) → flag_changed Polygon k ≡ k
unfolding flag_changed
null_same k = refl

-- A change leaves the vertices
changed_vertices : (o : Outline) (c : ℕ) (k : Command) → (changed o c k).vertices ≡ k.vertices
unfolding changed flag_changed
changed_vertices Line c k = pick_all (λ (e : Command). e.vertices ≡ k.vertices) (eqb c 0) refl refl
changed_vertices Polygon c k = pick_all (λ (e : Command). e.vertices ≡ k.vertices) (eqb c 0) refl refl

-- What is due

-- A move changes of the command at most the vertices
move_drawn : (P : Command → Type 0) (o : Outline) (filled : Bool) (v : Point) (d : Drawing)
    → P d.command → ((n : ℕ) → P (with_vertices n d.command))
    → Drawn (λ e. P e.command) (move_by o filled v d)
unfolding move_by draw_figure edge_by
move_drawn P Line filled v d p q =
    let D = Drawn (λ e. P e.command) in
    let kind : ℕ = pick d.command.noted 0 2 in
    pick_all D (eqb kind 1) p (pick_all D (eqb kind 2) p (pick_all D (eqb kind 4) p p))
move_drawn P Polygon filled v d p q = pick_all (Drawn (λ e. P e.command)) (ltb d.command.vertices most_vertices) (q _) tt

-- Whether a change is due after a change
changed_due : (o : Outline) (c : ℕ) (k : Command) → change_due k.due ≡ true → change_due (changed o c k).due ≡ changes_after o c true
unfolding changed flag_changed
changed_due Line c k x = pick_all (λ (e : Command). change_due e.due ≡ false) (eqb c 0) refl refl
changed_due Polygon c k x = pick_by (λ (e : Command). change_due e.due ≡ eqb c 0) (eqb c 0) (λ y. ap (λ e. change_due e.due) (null_same k) ∙ x ∙ sym y) (λ y. sym y)

-- and after any code
pub code_due : (o : Outline) (filled : Bool) (c : ℕ) (d : Drawing)
    → Drawn (λ e. change_due e.command.due ≡ changes_after o c (change_due d.command.due)) (apply_code o filled c d)
code_due o filled c d =
    let w = change_due d.command.due in
    let P : Command → Type 0 = λ e. change_due e.due ≡ changes_after o c w in
    code_by (Drawn (λ e. P e.command)) o filled c d
    (λ x y. (let k = x ∙ sym (ap (changes_after o c) x ∙ y) in move_drawn P o filled _ d k (λ n. k)))
    (λ x y. sym (ap (changes_after o c) x ∙ y))
    (λ x. changed_due o c d.command x ∙ sym (ap (changes_after o c) x))

-- The vertices of a polygon: each move adds one
pub code_vertices : (filled : Bool) (c : ℕ) (d : Drawing)
    → Drawn (λ e. e.command.vertices ≡ d.command.vertices + pick (change_due d.command.due || eqb c 0) 0 1) (apply_code Polygon filled c d)
unfolding move_by edge_by
code_vertices filled c d =
    let n = d.command.vertices in
    let w = change_due d.command.due in
    let D = Drawn (λ e. e.command.vertices ≡ n + pick (w || eqb c 0) 0 1) in
    code_by D Polygon filled c d
    (λ x y. pick_all D (ltb n most_vertices) (rw (x, y) (omega arith)) tt)
    (λ x y. rw (x, y) (omega arith))
    (λ x. changed_vertices Polygon c d.command ∙ rw x (omega arith))

-- Which codes draw

-- No refusal but this one
abbrev OnlyRefused : Refusal → Outcome → Type 0
OnlyRefused r (NotDrawn q) = q ≡ r
OnlyRefused r (Draw d rs) = Unit {0}

-- Of two actions, the second on the state after the first
then_draws : (P : Drawing → Type 0) (o : Outcome) (k : Drawing → Outcome)
    → Draws o → Drawn P o → ((e : Drawing) → P e → Draws (k e)) → Draws (and_then o k)
unfolding and_then
then_draws P (NotDrawn r) k h p f = h
then_draws P (Draw d rs) k h p f = by (k d) (f d p)
  where
    by : (o : Outcome) → Draws o → Draws (prepend rs o)
    by (NotDrawn r) q = q
    by (Draw e qs) q = tt

-- What codes after the first need to know of the state that it leaves
abbrev Moved : ℕ → Drawing → Drawing → Type 0
Moved c d e =
    (change_due e.command.due ≡ changes_after Polygon c (change_due d.command.due))
    × (e.command.vertices ≡ d.command.vertices + pick (change_due d.command.due || eqb c 0) 0 1)

-- A code leaves it
code_moved : (filled : Bool) (c : ℕ) (d : Drawing) → Drawn (Moved c d) (apply_code Polygon filled c d)
code_moved filled c d =
    drawn_both
    (λ e. change_due e.command.due ≡ changes_after Polygon c (change_due d.command.due))
    (λ e. e.command.vertices ≡ d.command.vertices + pick (change_due d.command.due || eqb c 0) 0 1)
    (apply_code Polygon filled c d) (code_due Polygon filled c d) (code_vertices filled c d)

-- The vertices that codes lead to, counted from either state
moved_sum : (c : ℕ) (cs : List ℕ) (d e : Drawing) → Moved c d e
    → e.command.vertices + moves_in Polygon cs (change_due e.command.due)
    ≡ d.command.vertices + moves_in Polygon (c ∷ cs) (change_due d.command.due)
moved_sum c cs d e m = ap₂ (λ n w. n + moves_in Polygon cs w) m.1 m.0 ∙ omega arith

-- A code of a polygon draws where the vertex that it may add is within the limit
code_fits : (filled : Bool) (c : ℕ) (d : Drawing)
    → d.command.vertices + pick (change_due d.command.due || eqb c 0) 0 1 ≤ most_vertices → Draws (apply_code Polygon filled c d)
unfolding move_by edge_by
code_fits filled c d h =
    let n = d.command.vertices in
    code_by Draws Polygon filled c d
    (λ x y. pick_by Draws (ltb n most_vertices) (λ t. tt) (λ t. absurd (over x y (ltb-false n most_vertices t))))
    (λ x y. tt) (λ x. tt)
  where
    over : change_due d.command.due ≡ false → eqb c 0 ≡ false → most_vertices ≤ d.command.vertices → ⊥
    over x y l =
        let k = subst (λ t. d.command.vertices + pick (t || eqb c 0) 0 1 ≤ most_vertices) x h in
        let m = subst (λ t. d.command.vertices + pick t 0 1 ≤ most_vertices) y k in
        omega (arith, l, m)

-- Codes of a polygon whose moves end within the vertex limit draw
pub codes_fit : (filled : Bool) (cs : List ℕ) (d : Drawing)
    → d.command.vertices + moves_in Polygon cs (change_due d.command.due) ≤ most_vertices → Draws (apply_codes Polygon filled cs d)
unfolding apply_codes
codes_fit filled [] d h = tt
codes_fit filled (c ∷ cs) d h =
    then_draws (Moved c d) (apply_code Polygon filled c d) (apply_codes Polygon filled cs) (code_fits filled c d (omega (arith, h))) (code_moved filled c d)
    (λ e m. codes_fit filled cs e (subst (λ n. n ≤ most_vertices) (sym (moved_sum c cs d e m)) h))

-- A code of a polygon is refused for its vertices alone
code_only : (filled : Bool) (c : ℕ) (d : Drawing) → OnlyRefused TooManyVertices (apply_code Polygon filled c d)
unfolding move_by edge_by
code_only filled c d =
    code_by (OnlyRefused TooManyVertices) Polygon filled c d
    (λ x y. pick_all (OnlyRefused TooManyVertices) (ltb d.command.vertices most_vertices) tt refl) (λ x y. tt) (λ x. tt)

-- and leaves no more than the most
code_most : (filled : Bool) (c : ℕ) (d : Drawing)
    → d.command.vertices ≤ most_vertices → Drawn (λ e. e.command.vertices ≤ most_vertices) (apply_code Polygon filled c d)
unfolding move_by edge_by
code_most filled c d h =
    let n = d.command.vertices in
    let D = Drawn (λ e. e.command.vertices ≤ most_vertices) in
    code_by D Polygon filled c d (λ x y. pick_by D (ltb n most_vertices) (λ t. ltb-true n most_vertices t) (λ t. tt)) (λ x y. h)
    (λ x. subst (λ n. n ≤ most_vertices) (sym (changed_vertices Polygon c d.command)) h)

-- Codes of a polygon whose moves lead over the limit are refused, wherever among them the limit is met
pub codes_refused : (filled : Bool) (cs : List ℕ) (d : Drawing) → d.command.vertices ≤ most_vertices
    → suc most_vertices ≤ d.command.vertices + moves_in Polygon cs (change_due d.command.due)
    → apply_codes Polygon filled cs d ≡ NotDrawn TooManyVertices
unfolding apply_codes
codes_refused filled [] d h k = absurd (omega (arith, h, k))
codes_refused filled (c ∷ cs) d h k =
    by (apply_code Polygon filled c d) refl (code_only filled c d) (code_moved filled c d) (code_most filled c d h) (codes_refused filled cs)
  where
    by : (x : Outcome) → apply_code Polygon filled c d ≡ x → OnlyRefused TooManyVertices x
        → Drawn (Moved c d) x → Drawn (λ e. e.command.vertices ≤ most_vertices) x
        → ((e : Drawing) → e.command.vertices ≤ most_vertices
        → suc most_vertices ≤ e.command.vertices + moves_in Polygon cs (change_due e.command.due)
        → apply_codes Polygon filled cs e ≡ NotDrawn TooManyVertices)
        → apply_codes Polygon filled (c ∷ cs) d ≡ NotDrawn TooManyVertices
    by (NotDrawn r) p o m n f = first_refused Polygon filled c cs d p ∙ ap NotDrawn o
    by (Draw e rs) p o m n f =
        later_refused Polygon filled c cs d p (f e n (subst (λ n. suc most_vertices ≤ n) (sym (moved_sum c cs d e m)) k))

-- Both, of a polygon that is within the limit
pub refuses_whole : (filled : Bool) (cs : List ℕ) (d : Drawing) → d.command.vertices ≤ most_vertices → RefusesWhole filled cs d
refuses_whole filled cs d h = record { over = codes_refused filled cs d h; within = codes_fit filled cs d }

-- A code of a line draws
line_code : (filled : Bool) (c : ℕ) (d : Drawing) → Draws (apply_code Line filled c d)
unfolding move_by draw_figure
line_code filled c d =
    let kind : ℕ = pick d.command.noted 0 2 in
    code_by Draws Line filled c d
    (λ x y. pick_all Draws (eqb kind 1) tt (pick_all Draws (eqb kind 2) tt (pick_all Draws (eqb kind 4) tt tt)))
    (λ x y. tt) (λ x. tt)

-- and so do any codes: a line has no limit
pub line_draws : (filled : Bool) (cs : List ℕ) (d : Drawing) → Draws (apply_codes Line filled cs d)
unfolding apply_codes
line_draws filled [] d = tt
line_draws filled (c ∷ cs) d =
    then_draws (λ e. Unit {0}) (apply_code Line filled c d) (apply_codes Line filled cs) (line_code filled c d)
    (all (apply_code Line filled c d)) (λ e t. line_draws filled cs e)
  where
    all : (o : Outcome) → Drawn (λ e. Unit {0}) o
    all (NotDrawn r) = tt
    all (Draw d rs) = tt

-- Sign changes

-- Where a change is due, a code other than 00 changes the signs that it names, and a move is due
pub sign_changes : (o : Outline) (filled : Bool) (c : ℕ) (d : Drawing) → change_due d.command.due ≡ true → eqb c 0 ≡ false
    → apply_code o filled c d
    ≡ Draw (with_command (with_due Second (with_step (sign_changed c d.command.kept) d.command.noted d.command)) d) []
unfolding apply_code is_move altered changed
sign_changes o filled c d x y = rw (x, y)

-- "A sign change wraps at 32 bits ..": the negative is a number of 32 bits
pub negated_word : (n : ℕ) → negated n < 2 ^ 32
unfolding negated
negated_word n = omega arith

-- A number and its negative add up to 0 under wrapping
pub negated_sum : (n : ℕ) → n < 2 ^ 32 → wrapped_sum n (negated n) ≡ 0
unfolding wrapped_sum negated
negated_sum n h = omega (arith, h)

-- The least number, -2147483648, is its own negative
pub negated_least : negated (2 ^ 31) ≡ 2 ^ 31
unfolding negated
negated_least = refl

-- What a sign change makes of a coordinate, named or not
negated_changes : (t : Bool) (n : ℕ) → n < 2 ^ 32 → SignChanges t n (pick t (negated n) n)
negated_changes true n h = (negated_word n, negated_sum n h)
negated_changes false n h = refl

-- So a sign change does what is claimed, of a step with coordinates of 32 bits
pub changes_sign : (o : Outline) (filled : Bool) (c : ℕ) (d : Drawing) → change_due d.command.due ≡ true → (c ≡ 0 → ⊥)
    → d.command.kept.x < 2 ^ 32 → d.command.kept.y < 2 ^ 32 → ChangesSign o filled c d
unfolding sign_changed
changes_sign o filled c d x y h k =
    record {
      step = sign_changed c d.command.kept;
      does = sign_changes o filled c d x (ne_eqb c 0 y);
      dx = negated_changes (names_x c) d.command.kept.x h;
      dy = negated_changes (names_y c) d.command.kept.y k;
    }

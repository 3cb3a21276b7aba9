-- Runs of bytes that are drawn, over the parts that the code holds
use Rattle.std.specs.Prelude.{◌+◌, ◌-◌, ◌≤◌, ◌<◌, ◌≡◌, ◌∷◌, slice_range}
use Rattle.turn_runs.specs.Prelude.{ℕ, zero, suc, add-zero, arith, refl, sym, ap, ◌∙◌, subst, Bool, true, false, List, [], length, drop, get_or, set, length-take, get_or-take, get_or-drop, set-get_or, ltb, ltb-true, ltb-false, lt-ltb, le-ltb}
use Rattle.rules.specs.declared.Action.TheVariants.{Cancel}
use Rattle.rules.specs.declared.Coding.{Coding}
use Rattle.rules.specs.declared.Command.{Command}
use Rattle.rules.specs.declared.Cursor.{Cursor}
use Rattle.rules.specs.declared.Look.{Look}
use Rattle.rules.specs.declared.Pen.{Pen}
use Rattle.rules.specs.declared.Set.{Set}
use Rattle.rules.specs.declared.Text.{Text}
use Rattle.rules.specs.declared.Waiting.TheVariants.{Nothing}
use Rattle.rules.specs.declared.Status.TheVariants.{Running}
use Rattle.rules.specs.Numbers.{most_bytes, can, room_for_step}
use Rattle.rules.specs.Bodies.{nowhere, body_at}
use Rattle.rules.specs.Coding.{set_of}
use Rattle.rules.specs.Drawing.{Outcome, NotDrawn, Draw, act}
use Rattle.rules.specs.Step.{state_of}
use Rattle.rules.proofs.Bools.{true_false, pick_all}
use Rattle.pens.specs.Tips.{pen_of}
use Rattle.pens.specs.declared.tips.Tip.{Tip}
use Rattle.store.specs.Stretch.{on_by, Gives}
use Rattle.bodies.specs.Stack.{bodies_of}
use Rattle.figures.specs.Carried.{Carried, carry, carry_out, drawing_of}
use Rattle.drawing_runs.specs.Run.{Run, standing, none as run_none, more as run_more}
use Rattle.drawing_runs.specs.declared.Ran.{Ran}
use Rattle.reactions.specs.View.{coding_of}
use Rattle.steps.specs.Leaving.{source_at}
use Rattle.progress.specs.declared.Progress.{Progress}
use Rattle.progress.specs.declared.Reached.{Reached}
use Rattle.progress.specs.Progress.{place_after}
use Rattle.coded_turns.specs.Walk.{Place, placed, place_at, reached_at, Walk, source_of, cursors_after, Lies}
use Rattle.coded_turns.proofs.RunLaws.{Feeds, run_walk, cancel_walk, piece_feeds, body_feeds}
use Rattle.turn_runs.specs.Cancelling.{CancelsTo, kept, cancelled, cancelled_on}

-- A walk from the same place
pub walk_from : {budget : ℕ} {r s : Reached} (text : Text) {cursors : List Cursor} {firsts map st piece out : List ℕ} {y : Place} → r ≡ s
    → Walk piece (reached_at budget r text cursors firsts map st out) y → Walk piece (reached_at budget s text cursors firsts map st out) y
walk_from text e a = rw (← e) a

-- The bytes read of a cell, with its place
counted : (place from end to n : ℕ) → (from < end → place + end ≤ from + most_bytes) → to ≤ end → from + n ≤ to → place < 256 → (place + n < 256) × (n < 256)
counted place from end to n h l m k = by (ltb from end) refl
  where
    by : (t : Bool) → ltb from end ≡ t → (place + n < 256) × (n < 256)
    by true e = let g = h (ltb-true from end e) in (omega arith, omega arith)
    by false e = let g = ltb-false from end e in (omega arith, omega arith)

-- Where bytes lie
pub source_piece : (d : ℕ) (piece st : List ℕ) → d ≡ 0 → piece ≡ source_of d piece st
source_piece d piece st e = rw e

pub source_body : (d : ℕ) (piece st : List ℕ) → (d ≡ 0 → ⊥) → st ≡ source_of d piece st
source_body zero piece st h = absurd (h refl)
source_body (suc i) piece st h = refl

pub lies_piece : {d at : ℕ} {cursors : List Cursor} {st piece : List ℕ} → d ≡ 0 → at ≤ length piece → Lies d at cursors st piece at (length piece)
lies_piece e h =
    record {
      order = h;
      within = rw e (omega arith);
      start = λ _. refl;
      passes = λ n l i f. absurd (omega (arith, e, f));
      gives = λ i f. absurd (omega (arith, e, f));
    }

pub lies_body : (d : ℕ) {at : ℕ} {cursors : List Cursor} {st piece : List ℕ} {from to : ℕ} → (d ≡ 0 → ⊥) → d - 1 < length cursors
    → (x : Cursor) → x ≡ get_or cursors (d - 1) nowhere → x.place < 256
    → ((k : ℕ) → from + k < to → Gives st x from k) → from ≤ to → to ≤ length st → (from < to → x.place + to ≤ from + most_bytes)
    → Lies d at cursors st piece from to
lies_body zero h wide x e byte g o w p = absurd (h refl)
lies_body (suc i) {at} {cursors} {st} {piece} {from} {to} h wide x e byte g o w p =
    record {
      order = o;
      within = w;
      start = λ f. absurd (omega (arith, f));
      passes = λ n l j f. subst (λ (m : ℕ). (m < length cursors) × ((get_or cursors m nowhere).place + n < 256) × (n < 256)) (same j f) (room n (counted x.place from to to n p (omega arith) l byte));
      gives = λ j f k l. subst (λ (m : ℕ). Gives st (body_at (bodies_of (suc m) cursors) m) from k) (same j f) (subst (λ (y : Cursor). Gives st y from k) e (g k l));
    }
  where
    same : (j : ℕ) → suc i ≡ suc j → suc i - 1 ≡ j
    same j f = omega (arith, f)

    room : (n : ℕ) → (x.place + n < 256) × (n < 256) → (suc i - 1 < length cursors) × ((get_or cursors (suc i - 1) nowhere).place + n < 256) × (n < 256)
    room n r = (wide, subst (λ (y : Cursor). y.place + n < 256) e r.0, r.1)

pub lies_less : {d at : ℕ} {cursors : List Cursor} {st piece : List ℕ} {from to : ℕ} (end : ℕ) → Lies d at cursors st piece from to → from ≤ end → end ≤ to → Lies d at cursors st piece from end
lies_less end h l m =
    record {
      order = l;
      within = omega (arith, h.within);
      start = h.start;
      passes = λ n k. h.passes n (omega arith);
      gives = λ i e k n. h.gives i e k (omega arith);
    }

pub lies_most : (d : ℕ) {at : ℕ} {cursors : List Cursor} {st piece : List ℕ} {from to : ℕ} (n : ℕ) → Lies d at cursors st piece from to → from + n ≤ to → at ≤ length piece → place_after d n at ≤ length piece
lies_most zero n h l m = omega (arith, h.start refl, h.within)
lies_most (suc i) n h l m = m

-- A cell read on
pub depth_body : (d : ℕ) → (d ≡ 0 → ⊥) → d ≡ suc (d - 1)
depth_body d h = omega (arith, h)

pub past_none : (d n : ℕ) (cursors : List Cursor) → n ≡ 0 → cursors_after d n cursors ≡ cursors
past_none zero n cursors e = refl
past_none (suc i) n cursors e = rw (e, add-zero (get_or cursors i nowhere).place) (set-get_or cursors i nowhere)

-- and no body's cell changes
cell_kept : (cursors : List Cursor) (i j : ℕ) (x : Cursor) → x.cell ≡ (get_or cursors i nowhere).cell → (get_or (set cursors i x) j nowhere).cell ≡ (get_or cursors j nowhere).cell
cell_kept [] i j x e = refl
cell_kept (y ∷ l) zero zero x e = e
cell_kept (y ∷ l) zero (suc j) x e = refl
cell_kept (y ∷ l) (suc i) zero x e = refl
cell_kept (y ∷ l) (suc i) (suc j) x e = cell_kept l i j x e

pub past_cells : (d n : ℕ) (cursors : List Cursor) (j : ℕ) → (get_or (cursors_after d n cursors) j nowhere).cell ≡ (get_or cursors j nowhere).cell
past_cells zero n cursors j = refl
past_cells (suc i) n cursors j = cell_kept cursors i j (on_by n (get_or cursors i nowhere)) refl

-- A run of no bytes
run_zero : {s : Set} {bytes : List ℕ} {from n : ℕ} {x y : Carried} → Run s bytes from x n y → n ≡ 0 → x ≡ y
run_zero run_none e = refl
run_zero (run_more r acts room drew) e = absurd (omega (arith, e))

pub run_still : {s : Set} {bytes : List ℕ} {from n at at₁ : ℕ} {pen pen₁ : Pen} {command command₁ : Command} {look : Look} {map out out₁ : List ℕ}
    → Run s bytes from (standing pen command look map at out) n (standing pen₁ command₁ look map at₁ out₁) → n ≡ 0
    → (at₁ ≡ at) × (pen₁ ≡ pen) × (command₁ ≡ command) × (out₁ ≡ out)
run_still r e =
    let q = sym (run_zero r e) in
    (ap (λ (c : Carried). c.at) q, ap (λ (c : Carried). c.drawing.pen) q, ap (λ (c : Carried). c.drawing.command) q, ap (λ (c : Carried). c.output) q)

-- Where the bytes are read that lie there
feeds_at : (d : ℕ) {at : ℕ} {cursors : List Cursor} {st piece : List ℕ} {from to : ℕ} → Lies d at cursors st piece from to
    → Feeds piece (source_of d piece st) from (to - from) st (source_at d) (λ k. bodies_of d (cursors_after d k cursors)) (λ k. place_after d k at)
feeds_at zero {at} {cursors} {st} {piece} {from} {to} h =
    subst (λ (n : ℕ). Feeds piece piece from (to - from) st (source_at 0) (λ k. bodies_of 0 cursors) (λ k. n + k)) (h.start refl)
    (piece_feeds piece from (to - from) cursors st (omega (arith, h.order, h.within)))
feeds_at (suc i) {at} {cursors} {st} {piece} {from} {to} h =
    body_feeds piece at from (to - from) i cursors st (body_at (bodies_of (suc i) cursors) i)
    (h.passes 0 (omega (arith, h.order)) i refl).0 (λ k l. h.gives i refl k (omega arith))

-- A part of the bytes
pub part_most : (bytes : List ℕ) (from to n : ℕ) → from ≤ to → n ≤ length (slice_range bytes from to) → from + n ≤ to
part_most bytes from to n h m = let e = length-take (to - from) (drop from bytes) in omega arith

part_at : (bytes : List ℕ) (from to n : ℕ) → n < to - from → get_or (slice_range bytes from to) n 0 ≡ get_or bytes (from + n) 0
part_at bytes from to n h = get_or-take (to - from) (drop from bytes) n 0 h ∙ get_or-drop from bytes n 0

place_none : (d at : ℕ) → place_after d 0 at ≡ at
place_none zero at = add-zero at
place_none (suc i) at = refl

-- Bytes drawn, x, and then a CAN or nothing
module _ (budget : ℕ) (p : Progress) (cursors : List Cursor) (firsts : List ℕ) (pen : Pen) (command : Command) (look : Look) (map st piece out : List ℕ)
    (s : Set) (bytes : List ℕ) (t : Text) (x : Ran Tip) (out₁ : List ℕ) (from to : ℕ) (waits : p.waiting ≡ Nothing)
    (used : s ≡ set_of p.sets.used p.sets) (source : bytes ≡ source_of p.depth piece st)
    (run : Run s bytes from (standing pen command look map p.written out) x.count (standing (pen_of t x.left) x.command look map x.at out₁))
    (few : to - from ≤ budget - p.steps) (lies : Lies p.depth p.at cursors st piece from to)
  where
    abbrev coding : Coding
    coding = coding_of p.sets p.waiting firsts

    abbrev here : Place
    here = place_at budget p cursors firsts (drawing_of pen command look map) st out

    -- After so many bytes, at a depth
    abbrev there : ℕ → ℕ → Carried → Place
    there n d z =
        placed (state_of budget (p.steps + n) Running (bodies_of d (cursors_after p.depth n cursors)) coding z.drawing st)
        (place_after p.depth n p.at) z.at z.output

    abbrev drawn : Carried
    drawn = standing (pen_of t x.left) x.command look map x.at out₁

    from_here : {y : Place} → Walk piece (there 0 p.depth (standing pen command look map p.written out)) y → Walk piece here y
    from_here a = rw (add-zero p.steps, past_none p.depth 0 cursors refl, place_none p.depth p.at) at a

    run_here : Run (set_of p.sets.used p.sets) (source_of p.depth piece st) from (standing pen command look map p.written out) x.count drawn
    run_here =
        subst (λ (l : List ℕ). Run (set_of p.sets.used p.sets) l from (standing pen command look map p.written out) x.count drawn) source
        (subst (λ (z : Set). Run z bytes from (standing pen command look map p.written out) x.count drawn) used run)

    walk_run : from + x.count ≤ to → Walk piece here (there x.count p.depth drawn)
    walk_run most = from_here (run_walk (feeds_at p.depth lies) budget p.steps coding waits few run_here (omega (arith, lies.order)))

    walk_cancel : from + suc x.count ≤ to → get_or bytes (from + x.count) 0 ≡ can → x.at + room_for_step ≤ length out₁ → (z : Carried)
        → z ≡ carry_out (act (Cancel can)) drawn.drawing x.at out₁ → z.refused ≡ false → Walk piece here (there (suc x.count) 0 z)
    unfolding carry
    walk_cancel most is room z e h = by (act (Cancel can) drawn.drawing) refl e
      where
        by : (o : Outcome) → act (Cancel can) drawn.drawing ≡ o → z ≡ carry o drawn.drawing x.at out₁ → Walk piece here (there (suc x.count) 0 z)
        by (NotDrawn r) q g = true_false (sym (ap (λ (k : Carried). k.refused) g) ∙ h)
        by (Draw d rs) q g =
            subst (λ (k : Carried). Walk piece here (there (suc x.count) 0 k)) (sym g)
            (from_here (cancel_walk (feeds_at p.depth lies) budget p.steps coding waits few run_here (omega (arith, lies.order)) (subst (λ (l : List ℕ). get_or l (from + x.count) 0 ≡ can) source is) room q))

    pub walk_drawn : (r : Ran Tip) (out₂ : List ℕ) → CancelsTo (slice_range bytes from to) t look x out₁ r out₂ → from + r.count ≤ to
        → (cursors₁ : List Cursor) → cursors₁ ≡ cursors_after p.depth r.count cursors
        → Walk piece here (place_at budget (cancelled_on x.count r.count r.at p) cursors₁ firsts (drawing_of (pen_of t r.left) r.command look map) st out₂)
    walk_drawn r out₂ kept most cursors₁ q = rw (q, le-ltb x.count x.count (omega arith)) (walk_run most)
    walk_drawn r out₂ (cancelled c is room e) most cursors₁ q =
        rw (q, c, lt-ltb x.count (suc x.count) (omega arith))
        (walk_cancel (omega (arith, c, most)) (sym (part_at bytes from to x.count (omega (arith, c, most))) ∙ is) room (standing (pen_of t r.left) r.command look map r.at out₂) (e map) refl)

-- What a CAN leaves of a progress: it counts as any byte, and where no byte came the depth is the same
pub cancelled_steps : (drew ran written : ℕ) (p : Progress) → (cancelled_on drew ran written p).steps ≡ p.steps + ran
cancelled_steps drew ran written p = pick_all (λ (q : Progress). q.steps ≡ p.steps + ran) (ltb drew ran) refl refl

pub cancelled_depth : (drew ran written : ℕ) (p : Progress) → ran ≡ 0 → (cancelled_on drew ran written p).depth ≡ p.depth
cancelled_depth drew ran written p e = rw (le-ltb drew ran (omega (arith, e)))

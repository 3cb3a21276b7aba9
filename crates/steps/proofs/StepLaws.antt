-- A step by its parts: the body read on, a call, an action, and the reaction that leads to them
use Rattle.std.specs.Prelude.{◌+◌, ◌≤◌, ◌<◌, ◌≡◌, ◌⊎◌, ◌&&◌, Result, Ok, Err, IsErr}
use Rattle.steps.specs.Prelude.{ℕ, zero, suc, add-zero, add-one, refl, sym, ap, ◌∙◌, Bool, true, false, not, List, [], inl, inr, set, eqb, lt-ltb, le-ltb}
use Rattle.rules.specs.declared.Action.{Action}
use Rattle.rules.specs.declared.Action.TheVariants.{Idle}
use Rattle.rules.specs.declared.Bodies.{Bodies}
use Rattle.rules.specs.declared.Coding.{Coding}
use Rattle.rules.specs.declared.Cursor.{Cursor}
use Rattle.rules.specs.declared.Drawing.{Drawing}
use Rattle.rules.specs.declared.Refusal.{Refusal}
use Rattle.rules.specs.declared.Refusal.TheVariants.{DefinitionInBody, TooDeep, TooManyVertices}
use Rattle.rules.specs.declared.Answer.{Answer}
use Rattle.rules.specs.declared.Answer.TheVariants.{Refused}
use Rattle.rules.specs.declared.Sets.{Sets}
use Rattle.rules.specs.declared.Status.TheVariants.{Running}
use Rattle.rules.specs.declared.Text.{Text}
use Rattle.rules.specs.declared.Waiting.{Waiting}
use Rattle.rules.specs.Numbers.{most_depth, room_for_step}
use Rattle.rules.specs.Store.{first_of}
use Rattle.rules.specs.Coding.{Reaction, Refuse, Call, React, react, after_escape}
use Rattle.rules.specs.Drawing.{Outcome, NotDrawn, Draw, act}
use Rattle.rules.specs.Record.{bytes_of_all}
use Rattle.rules.specs.Turn.{on_move}
use Rattle.rules.specs.Reading.{consumed_by}
use Rattle.rules.specs.Step.{State, with_bodies, Move, on_outcome, call, on_reaction, opens_inside, interpret}
use Rattle.rules.proofs.Bools.{true_false, false_true}
use Rattle.pens.specs.Tips.{pen_of}
use Rattle.records.proofs.Writes.{overwrite_none}
use Rattle.figures.specs.declared.TooManyVertices.{TooManyVertices as TooManyVertices·figures}
use Rattle.figures.specs.Carried.{Carried, carry, drawing_of, carried_of}
use Rattle.drawing.proofs.Refusals.{OnlyVertices, act_vertices}
use Rattle.bodies.specs.Stack.{bodies_of, DepthAfter}
use Rattle.reactions.specs.View.{coding_of, effect_on, reaction_of, AsLent, sets_after}
use Rattle.reactions.specs.declared.Effect.{Effect}
use Rattle.reactions.specs.declared.Effect.TheVariants.{Calls, Acts}
use Rattle.reactions.specs.declared.Reacted.{Reacted}
use Rattle.coding.proofs.EffectLaws.{act_kept}
use Rattle.steps.specs.declared.Course.{Course}
use Rattle.steps.specs.declared.Course.TheVariants.{GoesOn, Ends as Ends·course, Draws}
use Rattle.progress.specs.declared.Progress.{Progress}
use Rattle.steps.specs.declared.Turned.{Turned}
use Rattle.progress.specs.declared.Reached.{Reached}
use Rattle.steps.specs.Leaving.{source_at, read_on, step_by, interpreted, Left, leaves}
use Rattle.progress.specs.Progress.{steps_to, written_to}
use Rattle.steps.specs.View.{state_at, coding_after, answered, left_by, left_of, DrawDue, RoomBy, drawn_of, read_on_if}

-- 6 is for a byte from a body
pub inside_none : (d : ℕ) (x : Waiting) (b : ℕ) → d ≡ 0 → false ≡ opens_inside (source_at d) x b
unfolding opens_inside
inside_none d x b h = rw h

pub none_run : (d : ℕ) → d ≡ 0 → not (eqb d 0) ≡ false
none_run d h = rw h

pub inside_some : (d : ℕ) (x : Waiting) (b : ℕ) {t : Bool} → (d ≡ 0 → ⊥) → after_escape x ≡ t → (t && eqb b 64) ≡ opens_inside (source_at d) x b
unfolding opens_inside
inside_some zero x b h e = absurd (h refl)
inside_some (suc i) x b h e = rw e

-- A call and an idle action leave the sets
pub call_sets : (e : Effect) (n : ℕ) (s : Sets) → e ≡ Calls n → s ≡ sets_after e s
call_sets e n s h = rw h

pub idle_sets : (e : Effect) (a : Action) (s : Sets) → e ≡ Acts a → a ≡ Idle → s ≡ sets_after e s
idle_sets e a s h k = rw (h, k)

on_depth : (d : ℕ) (x : Cursor) (y : Bodies) → y.depth ≡ d → (read_on d x y).depth ≡ d
on_depth zero x y h = h
on_depth (suc i) x y h = refl

abbrev stops : Progress → Refusal → Turned
stops p r = record { course = Ends·course (Refused r); progress = p }

abbrev goes : Progress → Turned
goes p = record { course = GoesOn; progress = p }

-- To a reading that ends nothing is due
pub ends_due : (p q : Progress) (r : Turned) (a : Answer) → r ≡ record { course = Ends·course a; progress = q } → DrawDue p r
ends_due p q r a e = rw e tt

pub ends_room : (q : Progress) (r : Turned) (a : Answer) (n : ℕ) → r ≡ record { course = Ends·course a; progress = q } → RoomBy r.course n
ends_room q r a n e = rw e tt

pub some_room : (c : Course) (n : ℕ) → room_for_step ≤ n → RoomBy c n
some_room GoesOn n h = tt
some_room (Ends·course a) n h = tt
some_room (Draws a x) n h = h

-- A call
module _ (budget : ℕ) (p : Progress) (cursors : List Cursor) (firsts : List ℕ) (d : Drawing) (st out : List ℕ) (x : Cursor) (name : ℕ) (s : Sets) (u : Waiting) where
  abbrev before : State
  before = state_at budget p cursors firsts d st

  pub call_deep : (r : Turned) → r ≡ stops p TooDeep → most_depth ≤ p.depth
      → left_of budget p r cursors firsts d st out
      ≡ leaves (step_by p.depth x (call name (coding_of s u firsts)) before) p.at p.written out
  unfolding call on_move leaves
  call_deep r e h = rw (e, on_depth p.depth x (bodies_of p.depth cursors) refl, le-ltb p.depth most_depth h)

  called : (y : Bodies) (cursors₁ : List Cursor) (first after : ℕ) → bodies_of p.depth cursors₁ ≡ y → p.depth < most_depth
      → first ≡ first_of firsts name → after ≡ consumed_by (source_at p.depth) p.at
      → left_of budget p (goes (steps_to after (p.depth + 1) s u p)) (set cursors₁ p.depth (record { cell = first; place = 0 })) firsts d st out
      ≡ leaves {n = 1} (on_move (call name (coding_of s u firsts) (with_bodies y before)) 0 (source_at p.depth) [] before) p.at p.written out
  unfolding call on_move leaves bytes_of_all
  called y cursors₁ first after e h f a =
      rw (← e, lt-ltb p.depth most_depth h, ← f, ← a, overwrite_none out p.written, add-zero p.written, add-one p.steps, add-one p.depth)

  pub call_goes : (cursors₁ cursors₂ : List Cursor) (first after : ℕ) → p.depth < most_depth
      → bodies_of p.depth cursors₁ ≡ read_on p.depth x (bodies_of p.depth cursors)
      → first ≡ first_of firsts name
      → cursors₂ ≡ set cursors₁ p.depth (record { cell = first; place = 0 })
      → after ≡ consumed_by (source_at p.depth) p.at
      → (q : Progress) → q ≡ steps_to after (p.depth + 1) s u p
      → left_of budget p (goes q) cursors₂ firsts d st out
      ≡ leaves (step_by p.depth x (call name (coding_of s u firsts)) before) p.at p.written out
  call_goes cursors₁ cursors₂ first after h e f g a q k =
      rw (k, g) (called (read_on p.depth x (bodies_of p.depth cursors)) cursors₁ first after e h f a)

-- An action
module _ (budget : ℕ) (p : Progress) (cursors : List Cursor) (firsts : List ℕ) (d : Drawing) (st out : List ℕ) (x : Cursor) (s : Sets) (u : Waiting) where
  abbrev asked : Action → Left
  asked a = leaves (step_by p.depth x (on_outcome (act a d) a (coding_of s u firsts) st) (state_at budget p cursors firsts d st)) p.at p.written out

  idled : (y : Bodies) (cursors₁ : List Cursor) (after : ℕ) → bodies_of p.depth cursors₁ ≡ y → after ≡ consumed_by (source_at p.depth) p.at
      → left_of budget p (goes (steps_to after p.depth s u p)) cursors₁ firsts d st out
      ≡ leaves {n = 1} (on_move (on_outcome (act Idle d) Idle (coding_of s u firsts) st (with_bodies y (state_at budget p cursors firsts d st))) 0 (source_at p.depth) [] (state_at budget p cursors firsts d st)) p.at p.written out
  unfolding act on_outcome on_move leaves bytes_of_all
  idled y cursors₁ after e a = rw (← e, ← a, overwrite_none out p.written, add-zero p.written, add-one p.steps)

  -- One that asks nothing of drawing
  pub idle_goes : (cursors₁ : List Cursor) (after : ℕ)
      → bodies_of p.depth cursors₁ ≡ read_on p.depth x (bodies_of p.depth cursors)
      → after ≡ consumed_by (source_at p.depth) p.at
      → (q : Progress) → q ≡ steps_to after p.depth s u p
      → left_of budget p (goes q) cursors₁ firsts d st out ≡ asked Idle
  idle_goes cursors₁ after e a q k = rw k (idled (read_on p.depth x (bodies_of p.depth cursors)) cursors₁ after e a)

  -- One that is left to drawing
  pub draws_left : (a : Action) (after depth : ℕ) (q : Progress) → q ≡ steps_to after depth s u p
      → left_of budget p (record { course = Draws a x; progress = q }) cursors firsts d st out ≡ asked a
  draws_left a after depth q k = rw k

-- A refusal leaves the drawing state, so it may be read as it was
pub not_drawn : (o : Outcome) (d e : Drawing) (at : ℕ) (out out₁ : List ℕ) (x : TooManyVertices·figures)
    → carried_of (Err x) at e out₁ ≡ carry o d at out → record { refused = true; drawing = d; at = at; output = out₁ } ≡ carry o d at out
unfolding carry
not_drawn (NotDrawn r) d e at out out₁ x h = ap (λ (z : Carried). record { refused = true; drawing = d; at = at; output = z.output }) h
not_drawn (Draw c rs) d e at out out₁ x h = true_false (ap (λ (z : Carried). z.refused) h)

pub drawn_refused : (r : Result Reached TooManyVertices·figures) (x : Reached) (t : Text) (map out : List ℕ) → IsErr r
    → drawn_of r x t map out ≡ record { refused = true; drawing = drawing_of (pen_of t x.tip) x.command x.look map; at = x.progress.written; output = out }
drawn_refused (Ok n) x t map out h = false_true h
drawn_refused (Err e) x t map out h = refl

-- The action of a turn from p to q, of which drawing leaves z
module _ (budget : ℕ) (p q : Progress) (e : q ≡ steps_to (consumed_by (source_at p.depth) p.at) q.depth q.sets q.waiting p)
    (cursors : List Cursor) (firsts : List ℕ) (d : Drawing) (st out : List ℕ) (x : Cursor) (a : Action) (l : DepthAfter a p.depth q.depth)
    (z : Carried) (f : z ≡ carry (act a d) d p.written out)
    (cursors₁ : List Cursor) (g : bodies_of p.depth cursors₁ ≡ read_on_if z.refused p.depth x (bodies_of p.depth cursors)) where
  abbrev drawn : Left
  drawn = left_by (Draws a x) budget p q cursors firsts d st out

  pub draw_refused : z.refused ≡ true
      → record { course = Ends·course (Refused TooManyVertices); state = answered (Refused TooManyVertices) (state_at budget p cursors₁ firsts z.drawing st); consumed = p.at; written = p.written; output = z.output } ≡ drawn
  unfolding carry on_outcome on_move leaves
  draw_refused n = by (act a d) f (act_vertices a d)
    where
      same : bodies_of p.depth cursors₁ ≡ bodies_of p.depth cursors
      same = rw n at g

      by : (o : Outcome) → z ≡ carry o d p.written out → OnlyVertices o
          → record { course = Ends·course (Refused TooManyVertices); state = answered (Refused TooManyVertices) (state_at budget p cursors₁ firsts z.drawing st); consumed = p.at; written = p.written; output = z.output }
          ≡ leaves (step_by p.depth x (on_outcome o a (coding_of q.sets q.waiting firsts) st) (state_at budget p cursors firsts d st)) p.at p.written out
      by (NotDrawn m) h v = rw (v, same, h)
      by (Draw c rs) h v = false_true (sym (ap (λ (k : Carried). k.refused) h) ∙ n)

  pub draw_goes : z.refused ≡ false
      → record { course = GoesOn; state = state_at budget (written_to z.at q) cursors₁ firsts z.drawing st; consumed = q.at; written = z.at; output = z.output } ≡ drawn
  unfolding carry on_outcome on_move leaves
  draw_goes n = by (act a d) f
    where
      on : bodies_of p.depth cursors₁ ≡ read_on p.depth x (bodies_of p.depth cursors)
      on = rw n at g

      by : (o : Outcome) → z ≡ carry o d p.written out
          → record { course = GoesOn; state = state_at budget (written_to z.at q) cursors₁ firsts z.drawing st; consumed = q.at; written = z.at; output = z.output }
          ≡ leaves (step_by p.depth x (on_outcome o a (coding_of q.sets q.waiting firsts) st) (state_at budget p cursors firsts d st)) p.at p.written out
      by (NotDrawn m) h = true_false (sym (ap (λ (k : Carried). k.refused) h) ∙ n)
      by (Draw c rs) h =
          rw (← on, ← l cursors₁, ap (λ (k : Progress). k.at) e, ap (λ (k : Progress). k.steps) e, add-one p.steps)
          (ap (λ (k : Carried).
          record {
            course = GoesOn;
            state = state_with k.drawing;
            consumed = consumed_by (source_at p.depth) p.at;
            written = k.at;
            output = k.output;
          }) h)
        where
          state_with : Drawing → State
          state_with k = record { session = record { budget = budget; steps = suc p.steps; status = Running; bodies = bodies_of q.depth cursors₁; coding = coding_of q.sets q.waiting firsts; drawing = k }; store = st }

-- The reaction that leads there
module _ (budget : ℕ) (p : Progress) (cursors : List Cursor) (firsts : List ℕ) (d : Drawing) (st out : List ℕ) (x : Cursor) (b : ℕ) where
  abbrev entry : State
  entry = state_at budget p cursors firsts d st

  abbrev reaction : Reaction
  reaction = react (coding_of p.sets p.waiting firsts) st b

  abbrev leaves_by : (State → Move) → State → Left
  leaves_by k w = leaves (step_by p.depth x k w) p.at p.written out

  abbrev Answers : Left → Type 0
  Answers l = l ≡ leaves (interpreted p.depth x b entry) p.at p.written out

  pub byte_inside : (r : Turned) → r ≡ stops p DefinitionInBody → opens_inside (source_at p.depth) p.waiting b ≡ true
      → Answers (left_of budget p r cursors firsts d st out)
  unfolding interpreted interpret on_move leaves
  byte_inside r e h = rw (e, h)

  pub byte_refused : opens_inside (source_at p.depth) p.waiting b ≡ false → (x : Refusal) (firsts₁ st₁ : List ℕ) → Refuse x ≡ reaction
      → (firsts₁ ≡ firsts) × (st₁ ≡ st) → (r : Turned) → r ≡ stops p x → Answers (left_of budget p r cursors firsts₁ d st₁ out)
  unfolding interpreted interpret on_reaction on_move leaves
  byte_refused h x firsts₁ st₁ e k r q = rw (h, ← e, q, k.0, k.1)

  module _ (h : opens_inside (source_at p.depth) p.waiting b ≡ false) (m : Reacted) (firsts₁ st₁ : List ℕ) (e : reaction_of p.sets m firsts₁ st₁ ≡ reaction) where
    abbrev reacted : State
    reacted = state_at budget p cursors firsts₁ d st₁

    abbrev after : Coding
    after = coding_after m p firsts₁

    reacts : (y : Effect) (c : Reaction) (l : Left) → m.effect ≡ y → c ≡ effect_on y after st₁ → l ≡ leaves_by (on_reaction c) entry → Answers l
    unfolding interpreted interpret
    reacts y c l t f q =
        let r : effect_on y after st₁ ≡ reaction = rw (← t) e in
        rw (h, ← r, ← f) q

    -- First cells and store as lent: the step was from there
    as_lent : (k : State → Move) → firsts₁ ≡ firsts → st₁ ≡ st → leaves_by k reacted ≡ leaves_by k entry
    as_lent k f g = rw (f, g)

    pub byte_calls : (name : ℕ) → m.effect ≡ Calls name → (AsLent m firsts firsts₁) × (AsLent m st st₁) → (l : Left)
        → l ≡ leaves_by (call name after) reacted → Answers l
    unfolding on_reaction
    byte_calls name t k l q =
        reacts (Calls name) (Call after name) l t refl (q ∙ as_lent (call name after) (rw t at k.0) (rw t at k.1))

    -- An action that asks nothing of drawing is not refused, so the state before it does not matter
    idle_anywhere : (a : Action) (c : Coding) → a ≡ Idle → leaves_by (on_outcome (act a d) a c st₁) reacted ≡ leaves_by (on_outcome (act a d) a c st₁) entry
    unfolding act on_outcome on_move
    idle_anywhere a c k = rw k

    pub byte_acts : (a : Action) → m.effect ≡ Acts a → (l : Left) → l ≡ leaves_by (on_outcome (act a d) a after st₁) reacted → Answers l
    unfolding on_reaction
    byte_acts a t l q = by (act_kept (coding_of p.sets p.waiting firsts) st b m firsts₁ st₁ e a t)
      where
        by : ((firsts₁ ≡ firsts) × (st₁ ≡ st)) ⊎ (a ≡ Idle) → Answers l
        by (inl k) = reacts (Acts a) (React after st₁ a) l t refl (q ∙ as_lent (on_outcome (act a d) a after st₁) k.0 k.1)
        by (inr k) = reacts (Acts a) (React after st₁ a) l t refl (q ∙ idle_anywhere a after k)

    -- A change of the sets asks nothing of drawing
    pub byte_idle : (y : Effect) → m.effect ≡ y → React after st₁ Idle ≡ effect_on y after st₁ → (l : Left)
        → l ≡ leaves_by (on_outcome (act Idle d) Idle after st₁) reacted → Answers l
    unfolding on_reaction
    byte_idle y t f l q = reacts y (React after st₁ Idle) l t f (q ∙ idle_anywhere Idle after refl)

-- The loop of a reading over the parts that the code holds
use Rattle.std.specs.Prelude.{◌+◌, ◌-◌, ◌<◌, ◌≤◌, ◌≡◌}
use Rattle.reading.proofs.Prelude.{ℕ, refl, sym, ap, ◌∙◌, subst, true, false, List, length, drop, ltb}
use Rattle.rules.specs.declared.Cursor.{Cursor}
use Rattle.rules.specs.declared.Action.{Action}
use Rattle.rules.specs.declared.Answer.{Answer}
use Rattle.rules.specs.declared.Answer.TheVariants.{Done, Full, Refused}
use Rattle.rules.specs.declared.Drawing.{Drawing}
use Rattle.rules.specs.declared.Refusal.TheVariants.{TooManyVertices}
use Rattle.rules.specs.declared.Session.{Session}
use Rattle.rules.specs.declared.Status.{Status}
use Rattle.rules.specs.declared.Text.{Text}
use Rattle.rules.specs.Numbers.{room_for_step}
use Rattle.rules.specs.Step.{State, state_lent}
use Rattle.rules.specs.Turn.{turn}
use Rattle.rules.specs.Drawing.{act}
use Rattle.rules.specs.Ranges.{drawing_fits}
use Rattle.rules.specs.Reading.{Room, reading, Valid}
use Rattle.rules.specs.Calls.{handed}
use Rattle.pens.specs.Tips.{pen_of}
use Rattle.figures.specs.Carried.{Carried, carry, drawing_of}
use Rattle.bodies.specs.Stack.{bodies_of}
use Rattle.steps.specs.declared.Course.TheVariants.{GoesOn, Ends, Draws}
use Rattle.progress.specs.declared.Progress.{Progress}
use Rattle.steps.specs.declared.Turned.{Turned}
use Rattle.rules.specs.declared.Fed.{Fed}
use Rattle.steps.specs.Leaving.{Left, leaves}
use Rattle.progress.specs.declared.Reached.{Reached}
use Rattle.progress.specs.Progress.{start_of, written_to}
use Rattle.steps.specs.View.{state_at, answered, left_of, DrawDueBy, DrawDue, RoomBy, read_on_if}
use Rattle.progress.specs.Handing.{session_after}
use Rattle.rules.specs.Promises.{handed_of}
use Rattle.progress.specs.Handing.{fed_of}
use Rattle.coded_turns.specs.Walk.{Stands, reached_at}
use Rattle.steps.proofs.StepLaws.{draw_refused, draw_goes}
use Rattle.reading.proofs.Whole.{Kept, Next, kept_first, kept_next, whole_reading}

-- The state once a reading has ended, as a session
ended_state : (a : Answer) (budget : ℕ) (p : Progress) (cursors : List Cursor) (firsts : List ℕ) (d : Drawing) (st : List ℕ)
    → state_lent (session_after a budget p cursors firsts d) st ≡ answered a (state_at budget p cursors firsts d st)
ended_state Done budget p cursors firsts d st = refl
ended_state Full budget p cursors firsts d st = refl
ended_state (Refused r) budget p cursors firsts d st = refl

-- What is asked of drawing
pub drawn_due : (r : Turned) (p : Progress) (a : Action) (x : Cursor) → r.course ≡ Draws a x → DrawDue p r → DrawDueBy (Draws a x) p r.progress
drawn_due r p a x g u = rw g at u

pub drawn_room : (r : Turned) (n : ℕ) (a : Action) (x : Cursor) → r.course ≡ Draws a x → RoomBy r.course n → room_for_step ≤ n
drawn_room r n a x g u = rw g at u

-- The tests before a feed look at no colour of the map
pub stands_any : {piece out : List ℕ} (budget : ℕ) (x : Reached) (text : Text) (cursors : List Cursor) (firsts map st : List ℕ)
    → Stands piece (reached_at budget x text cursors firsts map st out)
    → (m : List ℕ) → Stands piece (reached_at budget x text cursors firsts m st out)
unfolding drawing_fits
stands_any budget x text cursors firsts map st h m =
    let v = h.sound in
    record { sound = record { size = v.size; running = v.running; bodies = v.bodies; waiting = v.waiting; drawing = v.drawing }; on = h.on; within = h.within }

-- A turn from what is kept
module _ (w₀ : State) (budget : ℕ) (piece out₀ : List ℕ) (p : Progress) (cursors : List Cursor) (firsts : List ℕ) (d : Drawing) (st out : List ℕ) (i : Kept w₀ piece out₀ (state_at budget p cursors firsts d st) p.at p.written out)
    (r : Turned) (cursors₁ : List Cursor) (firsts₁ st₁ : List ℕ)
    (e : (c : Drawing) (l : List ℕ) → left_of budget p r cursors₁ firsts₁ c st₁ l ≡ leaves (turn (ltb (length out - p.written) room_for_step) (budget - p.steps) (state_at budget p cursors firsts c st) (drop p.at piece)) p.at p.written l)
  where
    abbrev before : State
    before = state_at budget p cursors firsts d st

    next : (x : Left) → x ≡ left_of budget p r cursors₁ firsts₁ d st₁ out → Next w₀ piece out₀ before p.at p.written out x.course x
    next x f = kept_next w₀ piece out₀ before p.at p.written out x i (f ∙ e d out)

    pub loop_on : r.course ≡ GoesOn
        → (Kept w₀ piece out₀ (state_at budget r.progress cursors₁ firsts₁ d st₁) r.progress.at r.progress.written out)
        × (r.progress.steps ≡ 1 + p.steps)
        × (p.steps < budget)
    loop_on g = next (record { course = GoesOn; state = state_at budget r.progress cursors₁ firsts₁ d st₁; consumed = r.progress.at; written = r.progress.written; output = out }) (rw g)

    pub loop_ends : (a : Answer) → r.course ≡ Ends a
        → record { answer = a; state = answered a (state_at budget p cursors₁ firsts₁ d st₁); consumed = p.at; written = p.written; output = out } ≡ handed (whole_reading w₀ piece out₀) out₀
    loop_ends a g = next (record { course = Ends a; state = answered a (state_at budget p cursors₁ firsts₁ d st₁); consumed = p.at; written = p.written; output = out }) (rw g)

    -- The turn's action drawn, of which drawing leaves z
    module _ (a : Action) (y : Cursor) (g : r.course ≡ Draws a y) (u : DrawDue p r) (z : Carried) (f : z ≡ carry (act a d) d p.written out)
        (cursors₂ : List Cursor) (h : bodies_of p.depth cursors₂ ≡ read_on_if z.refused p.depth y (bodies_of p.depth cursors₁)) where
      due : DrawDueBy (Draws a y) p r.progress
      due = drawn_due r p a y g u

      pub loop_draws : z.refused ≡ false → (q : Progress) → q ≡ written_to z.at r.progress
          → (Kept w₀ piece out₀ (state_at budget q cursors₂ firsts₁ z.drawing st₁) q.at q.written z.output)
          × (q.steps ≡ 1 + p.steps)
          × (p.steps < budget)
      loop_draws n q k =
          rw k
          (next (record { course = GoesOn; state = state_at budget (written_to z.at r.progress) cursors₂ firsts₁ z.drawing st₁; consumed = r.progress.at; written = z.at; output = z.output })
          (rw g (draw_goes budget p r.progress due.0 cursors₁ firsts₁ d st₁ out y a due.1 z f cursors₂ h n)))

      pub loop_refused : z.refused ≡ true
          → record { answer = Refused TooManyVertices; state = answered (Refused TooManyVertices) (state_at budget p cursors₂ firsts₁ z.drawing st₁); consumed = p.at; written = p.written; output = z.output }
          ≡ handed (whole_reading w₀ piece out₀) out₀
      loop_refused n =
          next (record { course = Ends (Refused TooManyVertices); state = answered (Refused TooManyVertices) (state_at budget p cursors₂ firsts₁ z.drawing st₁); consumed = p.at; written = p.written; output = z.output })
          (rw g (draw_refused budget p r.progress due.0 cursors₁ firsts₁ d st₁ out y a due.1 z f cursors₂ h n))

-- From a session that is lent, and to what is handed over
module _ (s : Session) (st₀ piece out₀ : List ℕ) (valid : Valid (state_lent s st₀)) (t₀ : Text) (f₀ : t₀ ≡ s.drawing.pen.text) (x₀ : Reached) (e₀ : x₀ ≡ start_of s) where
  -- The state that is lent, in parts
  abbrev first : State
  first = state_at s.budget x₀.progress s.bodies.cursors s.coding.firsts (drawing_of (pen_of t₀ x₀.tip) x₀.command x₀.look s.drawing.map) st₀

  first_lent : first ≡ state_lent s st₀
  first_lent =
      rw (e₀, f₀)
      (ap (λ (x : Status).
      record {
        session = record { budget = s.budget; steps = s.steps; status = x; bodies = s.bodies; coding = s.coding; drawing = s.drawing };
        store = st₀;
      }) (sym valid.running))

  pub loop_first : Kept first piece out₀ first x₀.progress.at x₀.progress.written out₀
  loop_first =
      subst (λ (q : Reached). Kept first piece out₀ first q.progress.at q.progress.written out₀) (sym e₀)
      (kept_first first piece out₀ (subst Valid (sym first_lent) valid))

  -- A reading that has ended hands the whole over
  pub hands_over : (a : Answer) (p : Progress) (cursors : List Cursor) (firsts : List ℕ) (d : Drawing) (st out : List ℕ)
      → record { answer = a; state = answered a (state_at s.budget p cursors firsts d st); consumed = p.at; written = p.written; output = out } ≡ handed (whole_reading first piece out₀) out₀
      → (r : Fed) → r ≡ fed_of a p (session_after a s.budget p cursors firsts d)
      → handed_of r st out ≡ handed (reading (Room (length out₀)) (s.budget - s.steps) (state_lent s st₀) piece) out₀
  hands_over a p cursors firsts d st out h r e =
      rw e
      (ap (λ (w : State). record { answer = a; state = w; consumed = p.at; written = p.written; output = out }) (ended_state a s.budget p cursors firsts d st)
      ∙ h
      ∙ ap (λ (w : State). handed (whole_reading w piece out₀) out₀) first_lent)

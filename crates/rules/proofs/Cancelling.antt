-- CAN: what a 1/8 does that is read as a control
use Rattle.std.specs.Prelude.{◌≡◌, ◌∷◌, ◌++◌}
use Rattle.rules.specs.Prelude.{ℕ, refl, sym, ap, ◌∙◌, subst, false, and-false, List, [], append_assoc}
use Rattle.rules.specs.Types.{Waiting, Nothing, Shifted, Escape, Designator, Longer, Name, Body, BodyEscape, Row·waiting as Row, Column}
use Rattle.rules.specs.Types.{Cancels, Below, Coding, Bodies, Close, Cancel, Drawing}
use Rattle.rules.specs.Numbers.{can}
use Rattle.rules.specs.Bodies.{depth_left, bytes_left, leave_all}
use Rattle.rules.specs.Coding.{React, wait, controls, control, class_of, react_to, react, after_escape}
use Rattle.rules.specs.Drawing.{Outcome, NotDrawn, Draw, and_then, close, control_record, act}
use Rattle.rules.specs.Step.{State, stepped, Source, FromBody, FromPiece, Found, Move, Stops, Goes, on_outcome, on_reaction, opens_inside, interpret}
use Rattle.rules.specs.Expansion.{pending, undropped, fate, on_fate, expand}
use Rattle.rules.specs.Statements.{TakesControl, Cancelled, CancelsBodies, ExpandsCancel}
use Rattle.rules.proofs.Simulation.{Core, core, seek_core, expand_step}

-- What is waited for is dropped
drop_to : (x : Waiting) (c : Coding) (st : List ℕ) → TakesControl x → react_to x (Below Cancels) c st can ≡ React (wait Nothing c) st (Cancel can)
unfolding react_to control
drop_to Nothing c st h = refl
drop_to (Shifted s) c st h = refl
drop_to Escape c st h = refl
drop_to (Designator e) c st h = refl
drop_to Longer c st h = refl
drop_to Name c st h = absurd h
drop_to (Body d) c st h = absurd h
drop_to (BodyEscape d) c st h = absurd h
drop_to (Row x) c st h = absurd h
drop_to (Column x r) c st h = absurd h

react_can : (c : Coding) (st : List ℕ) → TakesControl c.waiting → react c st can ≡ React (wait Nothing c) st (Cancel can)
unfolding react class_of controls
react_can c st h = drop_to c.waiting c st h

-- It opens no definition
not_inside : (s : Source) (x : Waiting) → opens_inside s x can ≡ false
unfolding opens_inside
not_inside FromPiece x = refl
not_inside FromBody x = and-false (after_escape x)

module _ (w : State) (s : Source) (h : TakesControl w.session.coding.waiting) where
  -- By what closing makes of the drawing state
  abbrev after : Outcome → Move
  after (NotDrawn r) = Stops r
  after (Draw d rs) =
      Goes (stepped (leave_all w.session.bodies) (wait Nothing w.session.coding) d w.store w) (rs ++ (control_record can d ∷ []))

  interpret_can : interpret w s can ≡ after (close w.session.drawing)
  unfolding interpret on_reaction on_outcome act and_then
  interpret_can = rw (not_inside s w.session.coding.waiting, react_can w.session.coding w.store h) (by (close w.session.drawing))
    where
      by : (o : Outcome) → on_outcome (and_then o (λ (e : Drawing). Draw e (control_record can e ∷ []))) (Cancel can) (wait Nothing w.session.coding) w.store w ≡ after o
      by (NotDrawn r) = refl
      by (Draw d rs) = refl

-- There is none to leave
none_left_lem : (y : Bodies) → y.depth ≡ 0 → leave_all y ≡ y
none_left_lem y e = λ i. record { depth = sym e i; cursors = y.cursors }

abbrev LeavesAll : State → Move → Type 0
LeavesAll w (Stops r) = act Close w.session.drawing ≡ NotDrawn r
LeavesAll w (Goes u rs) = Cancelled w u rs

pub cancels_bodies : (w : State) (s : Source) → TakesControl w.session.coding.waiting → CancelsBodies w s
unfolding act bytes_left depth_left
cancels_bodies w s h =
    record {
      accepted = λ u rs e. subst (LeavesAll w) e here;
      refused = λ r e. subst (LeavesAll w) e here;
    }
  where
    by : (o : Outcome) → close w.session.drawing ≡ o → LeavesAll w (after w s h o)
    by (NotDrawn r) e = e
    by (Draw d rs) e =
        record { shut = d; closing = rs; closes = e; writes = refl; leaves = refl; none_left = refl; from_page = none_left_lem w.session.bodies }

    here : LeavesAll w (interpret w s can)
    here = subst (LeavesAll w) (sym (interpret_can w s h)) (by (close w.session.drawing) refl)

-- It stays in the expansion
can_stays : (n : ℕ) (c : Coding) (st held : List ℕ) (u : State) (r : List ℕ) → TakesControl c.waiting
    → on_fate (fate (react c st can) (undropped c can held ++ (can ∷ []))) (λ h. expand n u r h) ≡ undropped c can held ++ (can ∷ expand n u r [])
unfolding fate on_fate pending
can_stays n c st held u r h = rw (react_can c st h) (append_assoc (undropped c can held) (can ∷ []) (expand n u r []))

pub expands_cancel : (w : State) (bs : List ℕ) → TakesControl w.session.coding.waiting → ExpandsCancel w bs
expands_cancel w bs h n held r v u s rs q m =
    let same : core v ≡ core w = seek_core w bs (Found can v s r) q in
    let read : TakesControl v.session.coding.waiting = subst (λ (k : Core). TakesControl k.coding.waiting) (sym same) h in (
      expand_step n w bs held q m ∙ can_stays n w.session.coding w.store held u r h,
      ap (λ (x : State). x.session.bodies.depth) ((cancels_bodies v s read).accepted u rs m).leaves,
    )

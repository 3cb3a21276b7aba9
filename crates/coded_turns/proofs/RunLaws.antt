-- Runs of bytes as walks
use Rattle.std.specs.Prelude.{◌+◌, ◌-◌, ◌≤◌, ◌<◌, ◌≡◌, ◌∷◌}
use Rattle.coded_turns.specs.Prelude.{ℕ, zero, suc, add-zero, add-suc, arith, refl, sym, ap, ◌∙◌, subst, Bool, true, false, List, [], length, drop, get_or, set, drop-cons, get_or-set_same, ltb, lt-ltb, le-ltb}
use Rattle.rules.specs.declared.Action.{Action}
use Rattle.rules.specs.declared.Action.TheVariants.{Idle as Idle·action, Cancel}
use Rattle.rules.specs.declared.Bodies.{Bodies}
use Rattle.rules.specs.declared.Class.TheVariants.{Column2, Above}
use Rattle.rules.specs.declared.Coding.{Coding}
use Rattle.rules.specs.declared.Control.TheVariants.{Ignored, Locks}
use Rattle.rules.specs.declared.Cursor.{Cursor}
use Rattle.rules.specs.declared.Drawing.{Drawing}
use Rattle.rules.specs.declared.Element.{Element}
use Rattle.rules.specs.declared.Element.TheVariants.{G0, G1}
use Rattle.rules.specs.declared.Record.{Record}
use Rattle.rules.specs.declared.Set.TheVariants.{Macro}
use Rattle.rules.specs.declared.Status.TheVariants.{Running}
use Rattle.rules.specs.declared.Waiting.{Waiting}
use Rattle.rules.specs.declared.Waiting.TheVariants.{Nothing}
use Rattle.rules.specs.Numbers.{can, room_for_step}
use Rattle.rules.specs.Choice.{pick}
use Rattle.rules.specs.Bodies.{nowhere, body_at, has_left, depth_left, unspent, leave_all}
use Rattle.rules.specs.Coding.{React, set_of, in_use, wait, with_sets, controls, control, graphic, class_of, react_to, react, after_escape}
use Rattle.rules.specs.Drawing.{Draw, act}
use Rattle.rules.specs.Record.{bytes_of_all}
use Rattle.rules.specs.Reading.{consumed_by}
use Rattle.rules.specs.Store.{first_of}
use Rattle.rules.specs.Turn.{Takes, on_move, on_sought, turn}
use Rattle.rules.specs.Step.{State, state_of, remove_spent, Source, FromBody, FromPiece, Found, from_body, seek_at, seek, Goes, on_outcome, call, on_reaction, opens_inside, interpret}
use Rattle.rules.proofs.Reacting.{from_controls}
use Rattle.records.proofs.Writes.{overwrite_none}
use Rattle.store.specs.Stretch.{on_by, Gives}
use Rattle.bodies.specs.Stack.{bodies_of}
use Rattle.bodies.specs.Calls.{NamesEmpty, CallsEmpty}
use Rattle.figures.specs.Carried.{Carried, carry}
use Rattle.drawing_runs.specs.Run.{ActsAs, Run, none as run_none, more as run_more}
use Rattle.store.specs.Each.{none as Each-none, more as each_more}
use Rattle.coding_runs.specs.Idle.{Coded, Idle}
use Rattle.coded_turns.specs.Walk.{Place, placed, Walk, none, step}

-- A byte that is found and accepted
turn_found : (room n : ℕ) (w : State) (bs : List ℕ) {b : ℕ} {v u : State} {s : Source} {r : List ℕ} {rs : List Record}
    → room_for_step ≤ room → seek (remove_spent w) bs ≡ Found b v s r → interpret v s b ≡ Goes u rs
    → turn (ltb room room_for_step) (suc n) w bs ≡ Takes (record { byte = b; source = s; rest = r; after = u; records = rs })
unfolding turn on_sought on_move
turn_found room n w bs h q e = rw (le-ltb room room_for_step h, q, e)

-- With nothing waited for

as_it_waits : (c : Coding) → c.waiting ≡ Nothing → wait Nothing c ≡ c
as_it_waits c h = ap (λ (x : Waiting). record { sets = c.sets; waiting = x; firsts = c.firsts }) (sym h)

inside_not : (s : Source) (x : Waiting) (b : ℕ) → x ≡ Nothing → opens_inside s x b ≡ false
unfolding opens_inside after_escape
inside_not FromPiece x b h = refl
inside_not FromBody x b h = rw h

react_graphic : (c : Coding) (st : List ℕ) (b : ℕ) → c.waiting ≡ Nothing → 32 ≤ b → b ≤ 127 → react c st b ≡ graphic (set_of c.sets.used c.sets) c st b
unfolding react react_to class_of
react_graphic c st b h l m =
    rw (le-ltb 127 b m, h, le-ltb b 32 l) (by (ltb b 48))
    ∙ ap (λ (x : Coding). graphic (set_of c.sets.used c.sets) x st b) (as_it_waits c h)
  where
    by : (t : Bool) → react_to Nothing (pick t Column2 Above) (wait Nothing c) st b ≡ graphic (set_of c.sets.used c.sets) (wait Nothing c) st b
    by true = refl
    by false = refl

-- Locking shifts: "0/15 and 0/14 put G0, G1 in use."
pub out_locks : get_or controls 14 Ignored ≡ Locks G1
unfolding controls
out_locks = refl

pub in_locks : get_or controls 15 Ignored ≡ Locks G0
unfolding controls
in_locks = refl

pub react_lock : (c : Coding) (st : List ℕ) (b : ℕ) (e : Element) → c.waiting ≡ Nothing → b < 32 → get_or controls b Ignored ≡ Locks e → react c st b ≡ React (with_sets (in_use e c.sets) c) st Idle·action
unfolding react react_to class_of control
react_lock c st b e h l k = rw (le-ltb 127 b (omega arith), h, lt-ltb b 32 l, k)

-- A byte of the set in use that asks an action
acts_goes : (budget steps : ℕ) (y : Bodies) (c : Coding) (d e : Drawing) (st : List ℕ) (s : Source) (b : ℕ) (a : Action) (rs : List Record)
    → c.waiting ≡ Nothing → ActsAs (set_of c.sets.used c.sets) b a → act a d ≡ Draw e rs
    → interpret (state_of budget steps Running y c d st) s b ≡ Goes (state_of budget (suc steps) Running y c e st) rs
unfolding interpret on_reaction on_outcome
acts_goes budget steps y c d e st s b a rs h f g =
    rw (inside_not s c.waiting b h, f.asks c st h refl, g, f.keeps y)

-- A 1/8
can_goes : (budget steps : ℕ) (y : Bodies) (c : Coding) (d e : Drawing) (st : List ℕ) (s : Source) (b : ℕ) (rs : List Record)
    → c.waiting ≡ Nothing → b ≡ can → act (Cancel can) d ≡ Draw e rs
    → interpret (state_of budget steps Running y c d st) s b ≡ Goes (state_of budget (suc steps) Running (leave_all y) c e st) rs
unfolding interpret on_reaction on_outcome controls control
can_goes budget steps y c d e st s b rs h i g =
    rw (i, inside_not s c.waiting can h, from_controls can (omega arith) c st h (omega arith), g)

-- Where a run's bytes are read: byte k of the run is the one sought after k steps, and the bodies and the place of the piece are then these
pub record Feeds (piece bytes : List ℕ) (from limit : ℕ) (st : List ℕ) (s : Source) (bodies : ℕ → Bodies) (at : ℕ → ℕ) : Type 0 where
  pub rest : ℕ → List ℕ
  pub sought : (k : ℕ) → k < limit → (budget steps : ℕ) (c : Coding) (d : Drawing)
      → seek (remove_spent (state_of budget steps Running (bodies k) c d st)) (drop (at k) piece)
      ≡ Found (get_or bytes (from + k) 0) (state_of budget steps Running (bodies (suc k)) c d st) s (rest k)
  pub on : (k : ℕ) → consumed_by s (at k) ≡ at (suc k)

module _ {piece bytes : List ℕ} {from limit : ℕ} {st : List ℕ} {s : Source} {bodies : ℕ → Bodies} {at : ℕ → ℕ} (f : Feeds piece bytes from limit st s bodies at)
    (budget steps : ℕ) (c : Coding) (h : c.waiting ≡ Nothing) (few : limit ≤ budget - steps)
  where
    abbrev pub stands_at : ℕ → Carried → Place
    stands_at n y = placed (state_of budget (steps + n) Running (bodies n) c y.drawing st) (at n) y.at y.output

    -- The next byte drawn, and what it leaves of the bodies
    byte_walk : {x : Place} (y : Carried) {n : ℕ} {z : Bodies} {e : Drawing} {rs : List Record} → Walk piece x (stands_at n y) → n < limit
        → y.at + room_for_step ≤ length y.output
        → interpret (state_of budget (steps + n) Running (bodies (suc n)) c y.drawing st) s (get_or bytes (from + n) 0)
        ≡ Goes (state_of budget (suc (steps + n)) Running z c e st) rs
        → let k = carry (Draw e rs) y.drawing y.at y.output in
        Walk piece x (placed (state_of budget (steps + suc n) Running z c k.drawing st) (at (suc n)) k.at k.output)
    unfolding carry
    byte_walk {x} y {n} a l room i =
        rw (add-suc steps n, ← f.on n)
        (step {n = budget - (steps + n) - 1} a (omega arith)
        (turn_found (length y.output - y.at) (budget - (steps + n) - 1) (state_of budget (steps + n) Running (bodies n) c y.drawing st) (drop (at n) piece)
        (omega arith) (f.sought n l budget (steps + n) c y.drawing) i))

    pub run_walk : {x y : Carried} {n : ℕ} → Run (set_of c.sets.used c.sets) bytes from x n y → n ≤ limit → Walk piece (stands_at 0 x) (stands_at n y)
    run_walk run_none l = none
    run_walk (run_more {n} {y} {a} {e} {rs} r acts room drew) l =
        byte_walk y (run_walk r (omega arith)) l room
        (acts_goes budget (steps + n) (bodies (suc n)) c y.drawing e st s (get_or bytes (from + n) 0) a rs h acts drew)

    -- A run and a 1/8 after it, which leaves every body
    pub cancel_walk : {x y : Carried} {n : ℕ} {e : Drawing} {rs : List Record} → Run (set_of c.sets.used c.sets) bytes from x n y → n < limit
        → get_or bytes (from + n) 0 ≡ can → y.at + room_for_step ≤ length y.output → act (Cancel can) y.drawing ≡ Draw e rs
        → let k = carry (Draw e rs) y.drawing y.at y.output in
        Walk piece (stands_at 0 x) (placed (state_of budget (steps + suc n) Running (leave_all (bodies (suc n))) c k.drawing st) (at (suc n)) k.at k.output)
    cancel_walk {y = y} {n} {e} {rs} r l b room drew =
        byte_walk y (run_walk r (omega arith)) l room
        (can_goes budget (steps + n) (bodies (suc n)) c y.drawing e st s (get_or bytes (from + n) 0) rs h b drew)

-- The piece, without a body
piece_found : (w v : State) (piece : List ℕ) (at : ℕ) → remove_spent w ≡ v → v.session.bodies.depth ≡ 0 → at < length piece
    → seek (remove_spent w) (drop at piece) ≡ Found (get_or piece at 0) v FromPiece (drop (suc at) piece)
unfolding seek seek_at
piece_found w v piece at e d h = rw (e, d, drop-cons piece at 0 h)

none_spent : (budget steps : ℕ) (cursors : List Cursor) (c : Coding) (d : Drawing) (st : List ℕ)
    → remove_spent (state_of budget steps Running (bodies_of 0 cursors) c d st) ≡ state_of budget steps Running (bodies_of 0 cursors) c d st
unfolding remove_spent unspent depth_left
none_spent budget steps cursors c d st = refl

pub piece_feeds : (piece : List ℕ) (at limit : ℕ) (cursors : List Cursor) (st : List ℕ) → at + limit ≤ length piece
    → Feeds piece piece at limit st FromPiece (λ k. bodies_of 0 cursors) (λ k. at + k)
piece_feeds piece at limit cursors st h =
    record {
      rest = λ k. drop (suc (at + k)) piece;
      sought = λ k l budget steps c d. piece_found (state_of budget steps Running (bodies_of 0 cursors) c d st) (state_of budget steps Running (bodies_of 0 cursors) c d st) piece (at + k) (none_spent budget steps cursors c d st) refl (omega arith);
      on = λ k. sym (add-suc at k);
    }

-- A body's cell
set_set : (l : List Cursor) (i : ℕ) (a b : Cursor) → set (set l i a) i b ≡ set l i b
set_set [] i a b = refl
set_set (x ∷ l) zero a b = refl
set_set (x ∷ l) (suc i) a b = ap (λ (m : List Cursor). x ∷ m) (set_set l i a b)

first_nowhere : (l : List Cursor) → get_or (set l 0 nowhere) 0 nowhere ≡ nowhere
first_nowhere [] = refl
first_nowhere (x ∷ l) = refl

module _ (piece : List ℕ) (at from limit i : ℕ) (cursors : List Cursor) (st : List ℕ) (x : Cursor) (wide : i < length cursors)
    (g : (k : ℕ) → k < limit → Gives st x from k)
  where
    abbrev pub read_to : ℕ → Bodies
    read_to k = bodies_of (suc i) (set cursors i (on_by k x))

    read_here : (k : ℕ) → body_at (read_to k) i ≡ on_by k x
    read_here k = get_or-set_same cursors i (on_by k x) nowhere wide

    body_found : (k : ℕ) → k < limit → (budget steps : ℕ) (c : Coding) (d : Drawing)
        → seek (remove_spent (state_of budget steps Running (read_to k) c d st)) (drop at piece)
        ≡ Found (get_or st (from + k) 0) (state_of budget steps Running (read_to (suc k)) c d st) FromBody (drop at piece)
    unfolding seek seek_at remove_spent unspent depth_left from_body
    body_found k l budget steps c d =
        rw (read_here k, (g k l).left, read_here k, (g k l).read, set_set cursors i (on_by k x) (on_by (suc k) x))

    pub body_feeds : Feeds piece st from limit st FromBody read_to (λ k. at)
    body_feeds = record { rest = λ k. drop at piece; sought = body_found; on = λ k. refl }

-- Bytes of the piece that write no record
module _ (piece : List ℕ) (at written budget steps : ℕ) (cursors : List Cursor) (d : Drawing) (out : List ℕ) (limit : ℕ)
    (on : at + limit ≤ length piece) (few : limit ≤ budget - steps) (room : room_for_step ≤ length out - written)
  where
    abbrev quiet : ℕ → Bodies → Coding → List ℕ → Place
    quiet n y c st = placed (state_of budget (steps + n) Running y c d st) (at + n) written out

    quiet_step : {x : Place} (n : ℕ) (y z : Bodies) (c e : Coding) (st st' : List ℕ) (v : State) → n < limit → Walk piece x (quiet n y c st)
        → remove_spent (state_of budget (steps + n) Running y c d st) ≡ v → v.session.bodies.depth ≡ 0
        → interpret v FromPiece (get_or piece (at + n) 0) ≡ Goes (state_of budget (suc (steps + n)) Running z e d st') []
        → Walk piece x (quiet (suc n) z e st')
    unfolding bytes_of_all
    quiet_step {x} n y z c e st st' v l a r f i =
        let found = piece_found (state_of budget (steps + n) Running y c d st) v piece (at + n) r f (omega arith) in
        let t = turn_found (length out - written) (budget - (steps + n) - 1) (state_of budget (steps + n) Running y c d st) (drop (at + n) piece) room found i in
        let there = placed (state_of budget (suc (steps + n)) Running z e d st') (suc (at + n)) in
        rw (add-suc steps n, add-suc at n)
        (subst (Walk piece x) (ap (λ (o : List ℕ). there (written + 0) o) (overwrite_none out written) ∙ ap (λ (m : ℕ). there m out) (add-zero written)) (step {n = budget - (steps + n) - 1} a (omega arith) t))

    idle_goes : (n : ℕ) (c e : Coding) (st st' : List ℕ) (b : ℕ) → react c st b ≡ React e st' Idle·action
        → interpret (state_of budget n Running (bodies_of 0 cursors) c d st) FromPiece b ≡ Goes (state_of budget (suc n) Running (bodies_of 0 cursors) e d st') []
    unfolding interpret opens_inside on_reaction on_outcome act
    idle_goes n c e st st' b h = rw h

    pub idle_walk : {x y : Coded} {n : ℕ} → Idle piece at x n y → n ≤ limit
        → Walk piece (quiet 0 (bodies_of 0 cursors) x.coding x.store) (quiet n (bodies_of 0 cursors) y.coding y.store)
    idle_walk Each-none l = none
    idle_walk (each_more {n} {y} {z} r e) l =
        quiet_step n (bodies_of 0 cursors) (bodies_of 0 cursors) y.coding z.coding y.store z.store (state_of budget (steps + n) Running (bodies_of 0 cursors) y.coding d y.store) l
        (idle_walk r (omega arith)) (none_spent budget (steps + n) cursors y.coding d y.store) refl
        (idle_goes (steps + n) y.coding z.coding y.store z.store (get_or piece (at + n) 0) e)

    -- The bodies after so many calls of empty bodies
    abbrev pub called : ℕ → Bodies
    called zero = bodies_of 0 cursors
    called (suc n) = bodies_of 1 (set cursors 0 nowhere)

    module _ (c : Coding) (st : List ℕ) (h : c.waiting ≡ Nothing) (m : set_of c.sets.used c.sets ≡ Macro) where
      call_goes : (n : ℕ) (y : Bodies) (b : ℕ) → y.depth ≡ 0 → 32 ≤ b → b ≤ 127 → first_of c.firsts b ≡ 0
          → interpret (state_of budget n Running y c d st) FromPiece b ≡ Goes (state_of budget (suc n) Running (bodies_of 1 (set y.cursors 0 nowhere)) c d st) []
      unfolding interpret opens_inside on_reaction call graphic
      call_goes n y b e l k f = rw (react_graphic c st b h l k, m, e, f)

      empty_spent : (n : ℕ) → remove_spent (state_of budget n Running (called 1) c d st) ≡ state_of budget n Running (bodies_of 0 (set cursors 0 nowhere)) c d st
      unfolding remove_spent unspent depth_left has_left
      empty_spent n = rw (first_nowhere cursors)

      call_step : {x : Place} (n : ℕ) → n < limit → NamesEmpty c.firsts (get_or piece (at + n) 0)
          → Walk piece x (quiet n (called n) c st) → Walk piece x (quiet (suc n) (called (suc n)) c st)
      call_step zero l f a =
          quiet_step 0 (called 0) (called 1) c c st st (state_of budget (steps + 0) Running (called 0) c d st) l a
          (none_spent budget (steps + 0) cursors c d st) refl
          (call_goes (steps + 0) (called 0) (get_or piece (at + 0) 0) refl f.0.0 f.0.1 f.1)
      call_step (suc n) l f a =
          let y = bodies_of 0 (set cursors 0 nowhere) in
          quiet_step (suc n) (called 1) (called 1) c c st st (state_of budget (steps + suc n) Running y c d st) l a
          (empty_spent (steps + suc n)) refl
          (call_goes (steps + suc n) y (get_or piece (at + suc n) 0) refl f.0.0 f.0.1 f.1
          ∙ rw (set_set cursors 0 nowhere nowhere))

      pub calls_walk : (n : ℕ) → CallsEmpty c.firsts piece at n → n ≤ limit → Walk piece (quiet 0 (called 0) c st) (quiet n (called n) c st)
      calls_walk zero f l = none
      calls_walk (suc n) f l = call_step n l (f n (omega arith)) (calls_walk n (λ i k. f i (omega arith)) (omega arith))

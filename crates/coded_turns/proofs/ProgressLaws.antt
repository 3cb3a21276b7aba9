-- Walks, and runs of bytes that write no record, over the parts that the code holds
use Rattle.std.specs.Prelude.{◌+◌, ◌-◌, ◌≤◌, ◌<◌, ◌≡◌}
use Rattle.coded_turns.specs.Prelude.{ℕ, zero, suc, add-zero, arith, refl, sym, ap, subst, List, [], length, take, drop, get_or, set, length-take, length-drop, ltb, ltb-false}
use Rattle.rules.specs.declared.Cursor.{Cursor}
use Rattle.rules.specs.declared.Control.TheVariants.{Ignored, Locks}
use Rattle.rules.specs.declared.Drawing.{Drawing}
use Rattle.rules.specs.declared.Element.{Element}
use Rattle.rules.specs.declared.Set.TheVariants.{Macro}
use Rattle.rules.specs.declared.Waiting.TheVariants.{Nothing}
use Rattle.rules.specs.Numbers.{room_for_step}
use Rattle.rules.specs.Bodies.{nowhere, depth_left, unspent}
use Rattle.rules.specs.Coding.{set_of, in_use, controls}
use Rattle.rules.specs.Drawing.{fresh_drawing}
use Rattle.rules.specs.Record.{bytes_of_all}
use Rattle.rules.specs.Step.{State, remove_spent, Source, FromBody, FromPiece}
use Rattle.rules.specs.Reading.{consumed_by}
use Rattle.rules.proofs.Steps.{remove_twice, remove_later}
use Rattle.rules.proofs.Turns.{turn_advances}
use Rattle.records.proofs.Writes.{overwrite_length}
use Rattle.store.specs.Each.{none as Each-none, more as each_more}
use Rattle.bodies.specs.Stack.{bodies_of}
use Rattle.bodies.specs.Calls.{CallsEmpty}
use Rattle.reactions.specs.View.{coding_of}
use Rattle.coding_runs.specs.Idle.{Idle, coded}
use Rattle.coding_runs.specs.declared.Idled.{Idled}
use Rattle.progress.specs.declared.Progress.{Progress}
use Rattle.progress.specs.Progress.{at_depth, coded_on}
use Rattle.steps.specs.View.{state_at, NoneSpent}
use Rattle.coded_turns.specs.Walk.{Place, placed, place_at, Walk, none, removed, step, Stands}
use Rattle.coded_turns.proofs.RunLaws.{react_lock, idle_walk, calls_walk}

-- A walk after a walk
pub walk_then : {piece : List ℕ} {x y z : Place} → Walk piece x y → Walk piece y z → Walk piece x z
walk_then a none = a
walk_then a (removed b) = removed (walk_then a b)
walk_then a (step b m e) = step (walk_then a b) m e

-- Spent bodies removed

spent_removed : (budget : ℕ) (p : Progress) (cursors : List Cursor) (firsts : List ℕ) (g : Drawing) (st : List ℕ) (d : ℕ) → d ≡ depth_left st (bodies_of p.depth cursors) p.depth
    → state_at budget (at_depth d p) cursors firsts g st ≡ remove_spent (state_at budget p cursors firsts g st)
unfolding remove_spent unspent
spent_removed budget p cursors firsts g st d e = rw e

pub walk_removed : (budget : ℕ) (p : Progress) (cursors : List Cursor) (firsts : List ℕ) (g : Drawing) (st piece out : List ℕ)
    → (d : ℕ) → d ≡ depth_left st (bodies_of p.depth cursors) p.depth → (q : Progress) → q ≡ at_depth d p
    → Walk piece (place_at budget p cursors firsts g st out) (place_at budget q cursors firsts g st out)
walk_removed budget p cursors firsts g st piece out d e q f =
    rw f
    (subst (λ (w : State). Walk piece (place_at budget p cursors firsts g st out) (placed w p.at p.written out))
    (sym (spent_removed budget p cursors firsts g st d e)) (removed none))

pub removed_once : (p : Progress) (cursors : List Cursor) (st : List ℕ) (d : ℕ) → d ≡ depth_left st (bodies_of p.depth cursors) p.depth → NoneSpent d cursors st
unfolding remove_spent unspent
removed_once p cursors st d e = rw e (ap (λ (w : State). w.session.bodies.depth) (remove_twice (state_at 0 p cursors [] fresh_drawing st)))

pub none_runs : (d : ℕ) (cursors : List Cursor) (st : List ℕ) → d ≡ 0 → NoneSpent d cursors st
unfolding depth_left
none_runs d cursors st e = rw e

-- A walk leads from where a reading may stand to where it may stand
consumed_within : (s : Source) (n : ℕ) (l : List ℕ) → n ≤ length l → consumed_by s 0 ≤ length (drop n l) → consumed_by s n ≤ length l
consumed_within FromBody n l h k = h
consumed_within FromPiece n l h k = let e = length-drop n l in omega arith

pub walk_stands : {piece : List ℕ} {x y : Place} → Walk piece x y → Stands piece x → Stands piece y
walk_stands none h = h
walk_stands (removed {y} a) h =
    let j = walk_stands a h in
    record { sound = (remove_later y.state).valid j.sound; on = j.on; within = j.within }
walk_stands {piece} (step {y} {n} {t} a b e) h =
    let j = walk_stands a h in
    let f = turn_advances y.state (drop y.at piece) j.sound (ltb (length y.output - y.written) room_for_step) e in
    let bs = bytes_of_all t.records in
    let few = f.few in
    let free = ltb-false (length y.output - y.written) room_for_step f.free in
    let room : y.written + length bs ≤ length y.output = omega arith in
    let long = overwrite_length bs y.output y.written room in
    record {
      sound = f.later.valid j.sound;
      on = consumed_within t.source y.at piece j.on f.some;
      within = omega (arith, long, room);
    }

-- No step is taken back along a walk
pub walk_steps : {piece : List ℕ} {x y : Place} → Walk piece x y → Stands piece x → x.state.session.steps ≤ y.state.session.steps
unfolding remove_spent
walk_steps none h = omega arith
walk_steps (removed a) h = walk_steps a h
walk_steps {piece} (step {y} a b e) h =
    let k = walk_steps a h in
    let n = (turn_advances y.state (drop y.at piece) (walk_stands a h).sound (ltb (length y.output - y.written) room_for_step) e).later.steps in
    omega arith

-- A part of the piece is as long as its ends say
pub most_part : (piece : List ℕ) (at to n : ℕ) → n ≤ length (take (to - at) (drop at piece)) → n ≤ to - at
most_part piece at to n h = let e = length-take (to - at) (drop at piece) in omega arith

-- Bytes that write no record
module _ (budget : ℕ) (p : Progress) (cursors : List Cursor) (firsts : List ℕ) (g : Drawing) (st piece out : List ℕ)
    (d : p.depth ≡ 0) (to : ℕ) (l : to ≤ length piece) (few : to - p.at ≤ budget - p.steps) (room : room_for_step ≤ length out - p.written)
  where
    pub walk_idle : (idled : Idled) (firsts₁ st₁ : List ℕ)
        → Idle piece p.at (coded (coding_of p.sets p.waiting firsts) st) idled.count (coded (coding_of idled.sets idled.waiting firsts₁) st₁)
        → p.at + idled.count ≤ to → (r : Progress) → r ≡ coded_on idled.count 0 idled.sets idled.waiting p
        → Walk piece (place_at budget p cursors firsts g st out) (place_at budget r cursors firsts₁ g st₁ out)
    walk_idle idled firsts₁ st₁ i m r e =
        let w = idle_walk piece p.at p.written budget p.steps cursors g out idled.count (omega arith) (omega arith) room i (omega arith) in
        rw (e, d) (rw (add-zero p.steps, add-zero p.at) at w)

    pub walk_lock : (b : ℕ) (u : Element) → p.waiting ≡ Nothing → get_or piece p.at 0 ≡ b → b < 32 → get_or controls b Ignored ≡ Locks u
        → p.at < to → (r : Progress) → r ≡ coded_on 1 p.depth (in_use u p.sets) p.waiting p
        → Walk piece (place_at budget p cursors firsts g st out) (place_at budget r cursors firsts g st out)
    walk_lock b u w e k h m r q =
        let read : get_or piece (p.at + 0) 0 ≡ b = rw (add-zero p.at) e in
        let one = react_lock (coding_of p.sets p.waiting firsts) st (get_or piece (p.at + 0) 0) u w (rw read k) (rw read h) in
        walk_idle (record { sets = in_use u p.sets; waiting = p.waiting; count = 1 }) firsts st (each_more Each-none one) (omega arith) r (rw d at q)

    pub walk_calls : (n : ℕ) (cursors₁ : List Cursor) → (n ≡ 0 → ⊥) → p.waiting ≡ Nothing → set_of p.sets.used p.sets ≡ Macro → CallsEmpty firsts piece p.at n
        → p.at + n ≤ to → cursors₁ ≡ set cursors 0 nowhere → (r : Progress) → r ≡ coded_on n 1 p.sets p.waiting p
        → Walk piece (place_at budget p cursors firsts g st out) (place_at budget r cursors₁ firsts g st out)
    walk_calls zero cursors₁ h x s f m q r e = absurd (h refl)
    walk_calls (suc n) cursors₁ h x s f m q r e =
        let w = calls_walk piece p.at p.written budget p.steps cursors g out (suc n) (omega arith) (omega arith) room (coding_of p.sets p.waiting firsts) st x s (suc n) f (omega arith) in
        rw (e, d, q) (rw (add-zero p.steps, add-zero p.at) at w)

-- A turn by its parts: whether something is left, the byte that is next, and each way in which the turn comes out
use Rattle.std.specs.Prelude.{◌+◌, ◌-◌, ◌≤◌, ◌<◌, ◌≡◌, ◌∷◌, Option, Some, None}
use Rattle.turns.proofs.Prelude.{ℕ, zero, suc, add-zero, add-one, sub-one, arith, refl, sym, ap, ◌∙◌, Bool, true, false, List, [], length, drop, get_or, drop_of_length-le, drop-cons, get_or-drop, ltb, leb, lt-ltb, le-ltb, leb-true, leb-false}
use Rattle.rules.specs.declared.Answer.TheVariants.{Done, Full, Refused}
use Rattle.rules.specs.declared.Bodies.{Bodies}
use Rattle.rules.specs.declared.Cursor.{Cursor}
use Rattle.rules.specs.declared.Drawing.{Drawing}
use Rattle.rules.specs.declared.Refusal.TheVariants.{BudgetUsed, OutOfRange}
use Rattle.rules.specs.Numbers.{room_for_step}
use Rattle.rules.specs.Bodies.{nowhere, body_at, with_body, read_body, unspent}
use Rattle.rules.specs.Step.{State, with_bodies, remove_spent, Source, FromBody, Sought, NothingLeft, Spoilt, Found, from_body, seek_at, seek, Move, Stops, Goes, interpret}
use Rattle.rules.specs.Turn.{Turn, Ends, stopped, on_move, on_sought, turn}
use Rattle.rules.specs.Reading.{consumed_by}
use Rattle.rules.proofs.Bools.{true_false, false_true}
use Rattle.bodies.specs.Stack.{bodies_of}
use Rattle.steps.specs.declared.Course.TheVariants.{Ends as Ends·course}
use Rattle.progress.specs.declared.Progress.{Progress}
use Rattle.steps.specs.declared.Turned.{Turned}
use Rattle.steps.specs.Leaving.{nothing_left, next_byte, source_at, advanced, interpreted, Left, leaves}
use Rattle.steps.specs.View.{state_at, left_of, NoneSpent}

-- Whether something is left: of a body, or of the piece

pub left_of_piece : (d at : ℕ) (l : List ℕ) → d ≡ 0 → leb (length l) at ≡ nothing_left d (drop at l)
left_of_piece d at l h = rw h (by (leb (length l) at) refl)
  where
    by : (t : Bool) → leb (length l) at ≡ t → t ≡ nothing_left 0 (drop at l)
    by true e = rw (drop_of_length-le l {i = at} (leb-true (length l) at e))
    by false e = rw (drop-cons l at 0 (leb-false (length l) at e))

pub left_of_body : (d : ℕ) (bs : List ℕ) → (d ≡ 0 → ⊥) → false ≡ nothing_left d bs
left_of_body zero bs h = absurd (h refl)
left_of_body (suc i) bs h = refl

pub some_of_piece : (d at : ℕ) (l : List ℕ) → nothing_left d (drop at l) ≡ false → d ≡ 0 → at < length l
some_of_piece d at l q h = leb-false (length l) at (left_of_piece d at l h ∙ q)

-- The next byte, and the place of the piece after it

pub next_of_piece : (d at : ℕ) (st : List ℕ) (y : Bodies) (l : List ℕ) → d ≡ 0 → Some (get_or l at 0, nowhere) ≡ next_byte d st y (drop at l)
next_of_piece d at st y l h = rw (h, get_or-drop at l 0 0, add-zero at)

pub next_of_body : (d : ℕ) (st : List ℕ) (y : Bodies) (bs : List ℕ) → (d ≡ 0 → ⊥) → read_body st (body_at y (d - 1)) ≡ next_byte d st y bs
next_of_body zero st y bs h = absurd (h refl)
next_of_body (suc i) st y bs h = rw sub-one

pub after_piece : (d at : ℕ) → d ≡ 0 → at + 1 ≡ consumed_by (source_at d) at
after_piece d at h = rw (h, add-one at)

pub after_body : (d at : ℕ) → (d ≡ 0 → ⊥) → at ≡ consumed_by (source_at d) at
after_body zero at h = absurd (h refl)
after_body (suc i) at h = refl

-- What is sought, from these two

none_sought : (d : ℕ) (w : State) (bs : List ℕ) → nothing_left d bs ≡ true → seek_at d w bs ≡ NothingLeft
unfolding seek_at
none_sought zero w [] e = refl
none_sought zero w (b ∷ bs) e = false_true e
none_sought (suc i) w bs e = false_true e

abbrev sought_by : ℕ → Option (ℕ × Cursor) → State → List ℕ → Sought
sought_by d None w bs = Spoilt
sought_by d (Some (b, x)) w bs = Found b (advanced d x w) (source_at d) (drop (consumed_by (source_at d) 0) bs)

body_sought : (r : Option (ℕ × Cursor)) (i : ℕ) (w : State) (bs : List ℕ) → w.session.bodies.depth ≡ suc i → from_body r i w bs ≡ sought_by (suc i) r w bs
unfolding from_body
body_sought None i w bs e = refl
body_sought (Some (b, x)) i w bs e = ap (λ (n : ℕ). Found b (with_bodies (with_body n i x w.session.bodies) w) FromBody bs) e

byte_sought : (d : ℕ) (w : State) (bs : List ℕ) → w.session.bodies.depth ≡ d → nothing_left d bs ≡ false
    → seek_at d w bs ≡ sought_by d (next_byte d w.store w.session.bodies bs) w bs
unfolding seek_at
byte_sought zero w [] e h = true_false h
byte_sought zero w (b ∷ bs) e h = refl
byte_sought (suc i) w bs e h = body_sought (read_body w.store (body_at w.session.bodies i)) i w bs e

full_sought : (d n : ℕ) (r : Option (ℕ × Cursor)) (w : State) (bs : List ℕ) → on_sought true n (sought_by d r w bs) w ≡ Ends Full w
unfolding on_sought
full_sought d n None w bs = refl
full_sought d n (Some (b, x)) w bs = refl

spent_sought : (d : ℕ) (r : Option (ℕ × Cursor)) (w : State) (bs : List ℕ) → on_sought false 0 (sought_by d r w bs) w ≡ stopped BudgetUsed w
unfolding on_sought
spent_sought d None w bs = refl
spent_sought d (Some (b, x)) w bs = refl

pub none_found : (r : Option (ℕ × Cursor)) → ((x : ℕ × Cursor) → r ≡ Some x → ⊥) → r ≡ None
none_found (Some x) h = absurd (h x refl)
none_found None h = refl

-- What a move leaves is the same for every byte and rest of the piece
move_leaves : (n : ℕ) (m : Move) (b : ℕ) (s : Source) (bs : List ℕ) (w : State) (at written : ℕ) (out : List ℕ)
    → leaves {n = suc n} (on_move m b s bs w) at written out ≡ leaves {n = 1} (on_move m 0 s [] w) at written out
unfolding on_move leaves
move_leaves n (Stops r) b s bs w at written out = refl
move_leaves n (Goes u rs) b s bs w at written out = refl

-- A turn from p, where no spent body runs
module _ (budget : ℕ) (p : Progress) (cursors : List Cursor) (firsts : List ℕ) (drawing : Drawing) (st piece out : List ℕ) (free : ℕ) (none : NoneSpent p.depth cursors st) where
  abbrev entry : State
  entry = state_at budget p cursors firsts drawing st

  abbrev rest : List ℕ
  rest = drop p.at piece

  abbrev Answers : Left → Type 0
  Answers l = l ≡ leaves (turn (ltb free room_for_step) (budget - p.steps) entry rest) p.at p.written out

  removed : remove_spent entry ≡ entry
  unfolding remove_spent unspent
  removed = rw none

  comes : {n : ℕ} (t : Turn n) (l : Left) → budget - p.steps ≡ n → on_sought (ltb free room_for_step) n (seek entry rest) entry ≡ t
      → l ≡ leaves t p.at p.written out → Answers l
  unfolding turn
  comes t l m g h = rw (removed, m, g) h

  pub turn_done : nothing_left p.depth rest ≡ true → (r : Turned) → r ≡ record { course = Ends·course Done; progress = p }
      → Answers (left_of budget p r cursors firsts drawing st out)
  unfolding seek on_sought leaves
  turn_done h r g = comes (Ends Done entry) _ refl (rw (none_sought p.depth entry rest h)) (rw g)

  module _ (h : nothing_left p.depth rest ≡ false) where
    abbrev read : Option (ℕ × Cursor)
    read = next_byte p.depth st (bodies_of p.depth cursors) rest

    found : seek entry rest ≡ sought_by p.depth read entry rest
    unfolding seek
    found = byte_sought p.depth entry rest refl h

    pub turn_full : free < room_for_step → (r : Turned) → r ≡ record { course = Ends·course Full; progress = p }
        → Answers (left_of budget p r cursors firsts drawing st out)
    unfolding leaves
    turn_full k r g =
        comes (Ends Full entry) _ refl (rw (found, lt-ltb free room_for_step k) (full_sought p.depth (budget - p.steps) read entry rest)) (rw g)

    module _ (k : room_for_step ≤ free) where
      enough : ltb free room_for_step ≡ false
      enough = le-ltb free room_for_step k

      pub turn_spent : budget ≤ p.steps → (r : Turned) → r ≡ record { course = Ends·course (Refused BudgetUsed); progress = p }
          → Answers (left_of budget p r cursors firsts drawing st out)
      unfolding leaves
      turn_spent n r g =
          comes {n = 0} (stopped BudgetUsed entry) _ (omega arith) (rw (found, enough) (spent_sought p.depth read entry rest)) (rw g)

      module _ (n : p.steps < budget) (x : Option (ℕ × Cursor)) (i : x ≡ read) where
        some_left : budget - p.steps ≡ suc (budget - (p.steps + 1))
        some_left = omega arith

        pub turn_bad : x ≡ None → (r : Turned) → r ≡ record { course = Ends·course (Refused OutOfRange); progress = p }
            → Answers (left_of budget p r cursors firsts drawing st out)
        unfolding on_sought leaves
        turn_bad j r g = comes (stopped OutOfRange entry) _ some_left (rw (found, ← i, j, enough)) (rw g)

        pub turn_byte : {b : ℕ} {y : Cursor} → x ≡ Some (b, y) → (l : Left) → l ≡ leaves (interpreted p.depth y b entry) p.at p.written out → Answers l
        unfolding on_sought interpreted
        turn_byte {b} {y} j l g =
            let s = source_at p.depth in
            let m = interpret (advanced p.depth y entry) s b in
            let bs = drop (consumed_by s 0) rest in
            comes (on_move m b s bs entry) l some_left (rw (found, ← i, j, enough))
            (g ∙ sym (move_leaves (budget - (p.steps + 1)) m b s bs entry p.at p.written out))

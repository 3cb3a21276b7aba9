-- One feed after others: a reading goes on where a feed ended full, what is left of the budget, and lists with a call more
use Rattle.std.specs.Prelude.{◌+◌, ◌-◌, ◌≤◌, ◌<◌, ◌≡◌, ◌∷◌, ◌++◌}
use Rattle.rules.specs.Prelude.{ℕ, suc, add_assoc, arith, refl, sym, ap, ap₂, ◌∙◌, subst, List, [], append_assoc, append-nil, length, drop, drop-append-le, drop-drop, ltb-true}
use Rattle.rules.specs.Types.{Record, Done, Full, Refusal, Result, Ok, Err}
use Rattle.rules.specs.Numbers.{room_for_step}
use Rattle.rules.specs.Step.{State, remove_spent, Source, NothingLeft, Found, seek, Goes, interpret}
use Rattle.rules.specs.Reading.{Reading, NotRefused, Limit, Room, Always, reading, tests, steps_left, read_to, undivided, Valid}
use Rattle.rules.specs.Calls.{feed, unread, handed, Lent, returned, join, feeds, lent_bytes}
use Rattle.rules.proofs.Bools.{false_true}
use Rattle.rules.proofs.Steps.{seek_rest, tests_valid, later_tests, later_then, remove_later, step_later}
use Rattle.rules.proofs.Readings.{Reads, done, full, halt, step, reads, full_done, refused_full, refused_done, reads_failed, reads_passed}
use Rattle.rules.proofs.Cutting.{Plain, Whole, limit, more_whole, Follow, stays, goes, first, returned_handed, budget_left, first_follows}
use Rattle.rules.proofs.CallLaws.{feed_kept}

-- "Its number is done or that of the refusal, never full"

never_full : {n : ℕ} {w : State} {bs : List ℕ} {x : Reading} → Reads Always n w bs x → x.answer ≡ Full → ⊥
never_full (done q) a = full_done (sym a)
never_full (full f q p h) a = false_true f
never_full (halt f h) a = refused_full a
never_full (step f q m t) a = never_full t a

pub undivided_never_full : (w : State) (bs : List ℕ) → (undivided w bs).answer ≡ Full → ⊥
unfolding undivided
undivided_never_full w bs a = by (tests w) refl
  where
    n : ℕ
    n = w.session.budget - w.session.steps

    by : (v : Result (Unit {0}) Refusal) → tests w ≡ v → ⊥
    by (Err r) t = refused_full (ap (λ (x : Reading). x.answer) (sym (reads_failed Always w bs t)) ∙ a)
    by (Ok u) t = never_full (reads Always n w bs) (ap (λ (x : Reading). x.answer) (sym (reads_passed Always w bs t)) ∙ a)

-- Where a feed ends full, the undivided reading of its piece goes on with what is unread, from the state that the feed left

pub full_goes_on : (w : State) (bs out : List ℕ) → (feed w bs out).answer ≡ Full
    → undivided w bs ≡ join (returned (feed w bs out)) (undivided (feed w bs out).state (unread bs (feed w bs out).consumed))
unfolding undivided feed unread
full_goes_on w bs out a = by (tests w) refl
  where
    c : Lent
    c = record { further = bs; buffer = out }

    n : ℕ
    n = w.session.budget - w.session.steps

    x : Reading
    x = first w [] c

    onward : tests w ≡ Ok tt → Follow n w bs x → read_to Always w bs ≡ join (returned (handed x out)) (read_to Always x.state (drop x.consumed bs))
    onward t (stays r e z f) = refused_full (sym e ∙ a)
    onward t (goes k m l h f p z e g) =
        reads_passed Always w bs t
        ∙ ap₂ (λ (o : Plain) (y : List ℕ). reading (limit o) n w y) (sym (more_whole k)) (sym (append-nil bs))
        ∙ f Whole []
        ∙ ap (λ (y : List ℕ). join x (reading Always m x.state y)) (append-nil (drop x.consumed bs))
        ∙ ap (λ (i : ℕ). join x (reading Always i x.state (drop x.consumed bs))) (sym (budget_left k m w x.state l h))
        ∙ ap (join x) (sym (reads_passed Always x.state (drop x.consumed bs) (later_tests l t)))
        ∙ ap (λ (y : Reading). join y (read_to Always x.state (drop x.consumed bs))) (sym (returned_handed x out))

    by : (v : Result (Unit {0}) Refusal) → tests w ≡ v → read_to Always w bs ≡ join (returned (handed x out)) (read_to Always x.state (drop x.consumed bs))
    by (Err r) t = refused_full (ap (λ (y : Reading). y.answer) (sym (reads_failed (Room (length out)) w bs t)) ∙ a)
    by (Ok u) t = onward t (first_follows w [] c t)

-- What is left of the budget

-- A step takes one of it
step_left : {n : ℕ} {w : State} (bs : List ℕ) {b : ℕ} {v u : State} {s : Source} {r : List ℕ} {rs : List Record}
    → Valid w → seek (remove_spent w) bs ≡ Found b v s r → interpret v s b ≡ Goes u rs → suc n ≡ steps_left w
    → Valid u × (n ≡ steps_left u)
step_left {w = w} bs k q m e =
    let lw = remove_later w in
    let lu = later_then lw (step_later (remove_spent w) bs (lw.valid k) q m) in
    let b = lu.budget in
    let s = lu.steps in
    (lu.valid k, omega arith)

-- A reading that is not refused leaves no more of it
left_most : {l : Limit} {n : ℕ} {w : State} {bs : List ℕ} {x : Reading} → Valid w → Reads l n w bs x → n ≡ steps_left w
    → NotRefused x.answer → steps_left x.state ≤ n
left_most {w = w} k (done q) e a = let l = remove_later w in let b = l.budget in let s = l.steps in omega arith
left_most {w = w} k (full f q p h) e a = let l = remove_later w in let b = l.budget in let s = l.steps in omega arith
left_most k (halt {r = r} f h) e a = absurd (a r refl)
left_most {bs = bs} k (step f q m t) e a = let j = step_left bs k q m e in let i = left_most j.0 t j.1 a in omega arith

-- A feed with room for a step that ends full took one
full_takes : {m n : ℕ} {w : State} {bs : List ℕ} {x : Reading} → Valid w → room_for_step ≤ m → Reads (Room m) n w bs x → n ≡ steps_left w
    → x.answer ≡ Full → steps_left x.state < n
full_takes k h (done q) e a = full_done (sym a)
full_takes {m = m} k h (full f q p g) e a = let i = ltb-true m room_for_step f in absurd (omega arith)
full_takes k h (halt f g) e a = refused_full a
full_takes {bs = bs} k h (step f q g t) e a = let j = step_left bs k q g e in let i = left_most j.0 t j.1 (λ r o. refused_full (sym o ∙ a)) in omega arith

-- A reading of a piece that has bytes, and that is done, took one
done_takes : {l : Limit} {n : ℕ} {w : State} {bs : List ℕ} {x : Reading} → Valid w → 0 < length bs → Reads l n w bs x → n ≡ steps_left w
    → x.answer ≡ Done → steps_left x.state < n
done_takes {w = w} {bs = bs} k h (done q) e a =
    let i = ap (λ (z : List ℕ). length z) (seek_rest (remove_spent w) bs NothingLeft q) in absurd (omega arith)
done_takes k h (full f q p g) e a = full_done a
done_takes k h (halt f g) e a = refused_done a
done_takes {bs = bs} k h (step f q g t) e a = let j = step_left bs k q g e in let i = left_most j.0 t j.1 (λ r o. refused_done (sym o ∙ a)) in omega arith

-- Of a reading after feed's tests
after_tests : (l : Limit) (w : State) (bs : List ℕ) → NotRefused (read_to l w bs).answer
    → (Valid w → Reads l (steps_left w) w bs (read_to l w bs) → steps_left (read_to l w bs).state < steps_left w)
    → steps_left (read_to l w bs).state < steps_left w
after_tests l w bs a h = by (tests w) refl
  where
    by : (v : Result (Unit {0}) Refusal) → tests w ≡ v → steps_left (read_to l w bs).state < steps_left w
    by (Err r) t = absurd (a r (ap (λ (x : Reading). x.answer) (reads_failed l w bs t)))
    by (Ok u) t = h (tests_valid w t) (subst (Reads l (steps_left w) w bs) (sym (reads_passed l w bs t)) (reads l (steps_left w) w bs))

pub full_leaves_less : (w : State) (bs out : List ℕ) → room_for_step ≤ length out → (feed w bs out).answer ≡ Full
    → steps_left (feed w bs out).state < steps_left w
unfolding feed
full_leaves_less w bs out h a =
    after_tests (Room (length out)) w bs (λ r e. refused_full (sym e ∙ a)) (λ k x. full_takes k h x refl a)

pub done_leaves_less : (w : State) (bs : List ℕ) → 0 < length bs → (undivided w bs).answer ≡ Done
    → steps_left (undivided w bs).state < steps_left w
unfolding undivided
done_leaves_less w bs h a = after_tests Always w bs (λ r e. refused_done (sym e ∙ a)) (λ k x. done_takes k h x refl a)

-- A list of feeds with one call more at its end

join_more : (x y z : Reading) → join x (join y z) ≡ join (join x y) z
join_more x y z i =
    record {
      answer = z.answer;
      state = z.state;
      consumed = sym (add_assoc x.consumed y.consumed z.consumed) i;
      records = sym (append_assoc x.records y.records z.records) i;
    }

pub lent_last : (c : Lent) (cs : List Lent) (e : Lent) → lent_bytes c (cs ++ (e ∷ [])) ≡ lent_bytes c cs ++ e.further
lent_last c [] e = refl
lent_last c (d ∷ ds) e =
    ap (λ (z : List ℕ). c.further ++ z) (lent_last d ds e) ∙ sym (append_assoc c.further (lent_bytes d ds) e.further)

-- After a list that came to x, the call that is lent what is unread of bs and then its further bytes
abbrev pub last : Reading → List ℕ → Lent → Reading
last x bs e = join x (returned (feed x.state (drop x.consumed bs ++ e.further) e.buffer))

pub feeds_last : (w : State) (bs : List ℕ) (c : Lent) (cs : List Lent) (e : Lent)
    → feeds w bs c (cs ++ (e ∷ [])) ≡ last (feeds w bs c cs) (bs ++ lent_bytes c cs) e
unfolding feeds feed unread
feeds_last w bs c [] e = refl
feeds_last w bs c (d ∷ ds) e =
    let p = bs ++ c.further in
    let f = feed w p c.buffer in
    let rest = drop f.consumed p in
    let y = feeds f.state rest d ds in
    ap (join (returned f)) (feeds_last f.state rest d ds e)
    ∙ join_more (returned f) y (returned (feed y.state (drop y.consumed (rest ++ lent_bytes d ds) ++ e.further) e.buffer))
    ∙ ap (λ (z : List ℕ). join (join (returned f) y) (returned (feed y.state (z ++ e.further) e.buffer)))
    (ap (drop y.consumed) (sym (drop-append-le f.consumed p (lent_bytes d ds) (feed_kept w p (length c.buffer)).consumed))
    ∙ drop-drop y.consumed f.consumed (p ++ lent_bytes d ds)
    ∙ ap (drop (f.consumed + y.consumed)) (append_assoc bs c.further (lent_bytes d ds)))

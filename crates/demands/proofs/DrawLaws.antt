-- A page opened, read by feed calls and ended
use Rattle.std.specs.Prelude.{◌+◌, ◌-◌, ◌≤◌, ◌≡◌, ◌&&◌, ◌++◌, Result, Ok, Err}
use Rattle.demands.specs.Prelude.{ℕ, arith, refl, sym, ap, ◌∙◌, subst, Bool, true, false, List, append-nil, length, take, drop, length-take, length-drop, drop_of_length-le, take-append_seam, drop-append_seam, take-append-add, take_all, ltb, eqb, eq-eqb}
use borrow.Rule.Slice.PartMut.{put_mid}
use Rattle.rules.specs.declared.Refusal.{Refusal}
use Rattle.rules.specs.declared.Refusal.TheVariants.{StoreSize}
use Rattle.rules.specs.declared.Answer.{Answer}
use Rattle.rules.specs.declared.Answer.TheVariants.{Done, Full, Refused}
use Rattle.rules.specs.Numbers.{store_size, room_for_step}
use Rattle.rules.specs.Bodies.{bytes_left}
use Rattle.rules.specs.Coding.{unfinished}
use Rattle.rules.specs.Drawing.{is_open}
use Rattle.rules.specs.Ranges.{fits}
use Rattle.rules.specs.Step.{State, state_lent}
use Rattle.rules.specs.Reading.{Reading, Always, verdict, tests, undivided, NotRefused}
use Rattle.rules.specs.Calls.{Terms, Opening, fresh_state, open_as, open_page, Handed, handed, ending, end_checks, end}
use Rattle.rules.specs.Expansion.{expansion, read_page, end_page, all_records, SameState}
use Rattle.rules.proofs.Readings.{full_done, refused_done, refused_full, reads_failed}
use Rattle.rules.proofs.CallLaws.{end_kept}
use Rattle.rules.proofs.Demand3.{end_room}
use Rattle.rules.proofs.Expanding.{expanded}
use Rattle.rules.specs.declared.Opened.{Opened}
use Rattle.rules.specs.declared.Ended.{Ended}
use Rattle.rules.specs.declared.Fed.{Fed}
use Rattle.rules.specs.Promises.{Opens, Ends, handed_of}
use Rattle.demands.specs.Cuts.{lent_of, fed_cuts, Undivided}
use Rattle.demands.specs.Pictures.{end_more, end_after, end_done, drawn_cuts, Draws, DrawnAlike}

-- Of end's promise, at the rest of the output

pub end_counts : (w : State) (out : List ℕ) (at : ℕ) (r : Ended) (part : List ℕ)
    → Ends w (take (length out - at) (drop at out)) r part → r.written ≤ length out - at
unfolding end
end_counts w out at r part e =
    let b = length-take (length out - at) (drop at out) in
    let t = (end_kept w (length (take (length out - at) (drop at out)))).written in
    let n = ap (λ (h : Handed). h.written) e.same in
    omega arith

pub end_more_lem : (b : Fed) (st out : List ℕ) (r : Ended) (part : List ℕ)
    → Ends (state_lent b.session st) (take (length out - b.written) (drop b.written out)) r part
    → handed_of (record { answer = r.answer; consumed = b.consumed; written = b.written + r.written; session = r.session }) st (put_mid b.written (length out - b.written) out part)
    ≡ end_more (handed_of b st out)
end_more_lem b st out r part e =
    let n = b.written in
    let l = length-drop n out in
    let whole : take (length out - n) (drop n out) ≡ drop n out = take_all (length out - n) (drop n out) (omega arith) in
    let none : part ++ drop (length out - n) (drop n out) ≡ part =
    ap (λ (z : List ℕ). part ++ z) (drop_of_length-le (drop n out) {i = length out - n} (omega arith)) ∙ append-nil part in
    ap (λ (z : List ℕ). handed_of (record { answer = r.answer; consumed = b.consumed; written = n + r.written; session = r.session }) st (take n out ++ z)) none
    ∙ ap
    (λ (f : Handed).
    record {
      answer = f.answer;
      state = f.state;
      consumed = b.consumed;
      written = n + f.written;
      output = take n out ++ f.output;
    })
    (e.same ∙ ap (end (state_lent b.session st)) whole)

pub end_told : (h : Handed) {a : Answer} → h.answer ≡ a → end_after a h ≡ end_done h
end_told h e = ap (λ (a : Answer). end_after a h) (sym e)

-- Open

open_sized : (terms : Terms) (store : List ℕ) → length store ≡ store_size → (open_page terms store).state ≡ fresh_state terms
unfolding open_page open_as
open_sized terms store e = ap (λ (t : Bool). (open_as t terms store).state) (eq-eqb (length store) store_size e)

-- The session of an open that was refused reads nothing
open_read : (terms : Terms) (store bytes : List ℕ) → (undivided (open_page terms store).state bytes).answer ≡ Done
    → (open_page terms store).state ≡ fresh_state terms
unfolding open_page open_as undivided tests
open_read terms store bytes a = by (eqb (length store) store_size) refl a
  where
    by : (t : Bool) → eqb (length store) store_size ≡ t → (undivided (open_as t terms store).state bytes).answer ≡ Done
        → (open_as t terms store).state ≡ fresh_state terms
    by true e d = refl
    by false e d =
        let w = (open_as false terms store).state in
        let t : tests w ≡ Err StoreSize = ap (λ (b : Bool). verdict b w.session.status (fits w.session)) e in
        refused_done (ap (λ (x : Reading). x.answer) (sym (reads_failed Always w bytes t)) ∙ d)

-- An end that answers 0 with 120 bytes free answers 0 or full whatever room it has
end_not_refused : (room : ℕ) (w : State) → (ending room_for_step w).answer ≡ Done → NotRefused (ending room w).answer
unfolding ending end_checks
end_not_refused room w a =
    by (tests w) (bytes_left w.store w.session.bodies) (unfinished w.session.coding.waiting)
    (is_open w.session.drawing && ltb room room_for_step) (is_open w.session.drawing && ltb room_for_step room_for_step) a
  where
    by : (v : Result (Unit {0}) Refusal) (l i f g : Bool) → (end_checks v l i g w).answer ≡ Done → NotRefused (end_checks v l i f w).answer
    by (Err s) l i f g b = refused_done b
    by (Ok u) true i f g b = refused_done b
    by (Ok u) false true f g b = refused_done b
    by (Ok u) false false true g b = λ r e. refused_full (sym e)
    by (Ok u) false false false true b = full_done b
    by (Ok u) false false false false b = λ r e. refused_done (sym e ∙ b)

-- The picture of calls that read all they were lent, and of an end

end_read : (x z : Reading) (out rest : List ℕ)
    → take (length x.records + length z.records) (take (length x.records) (x.records ++ drop (length x.records) out) ++ (z.records ++ rest))
    ≡ x.records ++ z.records
end_read x z out rest =
    ap (λ (l : List ℕ). take (length x.records + length z.records) (l ++ (z.records ++ rest))) (take-append_seam x.records (drop (length x.records) out))
    ∙ take-append-add x.records (z.records ++ rest) (length z.records)
    ∙ ap (λ (l : List ℕ). x.records ++ l) (take-append_seam z.records rest)

read_draws : (terms : Terms) (store bytes out : List ℕ) → (undivided (fresh_state terms) bytes).answer ≡ Done
    → length (undivided (fresh_state terms) bytes).records ≤ length out
    → Draws terms store bytes out (end_more (handed (undivided (fresh_state terms) bytes) out))
unfolding end read_page end_page all_records
read_draws terms store bytes out d m =
    let x = undivided (fresh_state terms) bytes in
    let n = length x.records in
    let rest = drop n (x.records ++ drop n out) in
    let z = ending (length rest) x.state in
    let same : z.answer ≡ Done → z ≡ ending room_for_step x.state = end_room (length rest) x.state in
    let k = (end_kept x.state (length rest)).written in
    let l = ap length (drop-append_seam x.records (drop n out)) ∙ length-drop n out in
    record {
      accepted = λ a. record { read = d; ended = ap (λ (y : Reading). y.answer) (sym (same a)) ∙ a };
      records = λ a. end_read x z out (drop (length z.records) rest) ∙ ap (λ (y : Reading). x.records ++ y.records) (same a);
      state = λ a. ap (λ (y : Reading). y.state) (same a);
      not_refused = λ s a. end_not_refused (length rest) x.state a.ended;
      within = omega arith;
    }

-- Of all the calls
pub draws : (terms : Terms) (store bytes out : List ℕ) (f h : Handed) → Undivided (open_page terms store).state bytes out f
    → h ≡ end_done f → Draws terms store bytes out h
unfolding end_after read_page
draws terms store bytes out f h u e = by f.answer refl
  where
    left : {a : Answer} → f.answer ≡ a → h ≡ end_after a f
    left q = e ∙ sym (end_told f q)

    read : (f.answer ≡ Full → ⊥) → (open_page terms store).state ≡ fresh_state terms → f ≡ handed (undivided (fresh_state terms) bytes) out
    read n w = u.not_full n ∙ ap (λ (v : State). handed (undivided v bytes) out) w

    by : (a : Answer) → f.answer ≡ a → Draws terms store bytes out h
    by Done q =
        let n : f.answer ≡ Full → ⊥ = λ p. full_done (sym p ∙ q) in
        let o = open_read terms store bytes (ap (λ (g : Handed). g.answer) (sym (u.not_full n)) ∙ q) in
        let g = read n o in
        subst (Draws terms store bytes out) (sym (left q ∙ ap end_more g))
        (read_draws terms store bytes out (ap (λ (y : Handed). y.answer) (sym g) ∙ q) (subst (λ (y : Handed). y.written ≤ length out) g u.within))
    by Full q =
        subst (Draws terms store bytes out) (sym (left q))
        (record {
          accepted = λ a. full_done (sym q ∙ a);
          records = λ a. full_done (sym q ∙ a);
          state = λ a. full_done (sym q ∙ a);
          not_refused = λ s a r p. refused_full (sym p ∙ q);
          within = u.within;
        })
    by (Refused r) q =
        subst (Draws terms store bytes out) (sym (left q))
        (record {
          accepted = λ a. refused_done (sym q ∙ a);
          records = λ a. refused_done (sym q ∙ a);
          state = λ a. refused_done (sym q ∙ a);
          not_refused = λ s a.
              refused_done (sym q ∙ ap (λ (g : Handed). g.answer) (read (λ p. refused_full (sym q ∙ p)) (open_sized terms store s)) ∙ a.read);
          within = u.within;
        })

pub drawn : (terms : Terms) (store page lengths rooms out left : List ℕ) (o : Opened) (f h : Handed) → Opens terms store o left
    → f ≡ fed_cuts (state_lent o.session left) page lengths rooms out
    → Undivided (state_lent o.session left) (lent_of page lengths) out f → h ≡ end_done f
    → (h ≡ drawn_cuts terms store page lengths rooms out) × Draws terms store (lent_of page lengths) out h
unfolding drawn_cuts
drawn terms store page lengths rooms out left o f h p q u e =
    let w : state_lent o.session left ≡ (open_page terms store).state = ap (λ (x : Opening). x.state) p.same in
    let bytes = lent_of page lengths in (
      e ∙ ap end_done (q ∙ ap (λ (v : State). fed_cuts v page lengths rooms out) w),
      draws terms store bytes out f h (subst (λ (v : State). Undivided v bytes out f) w u) e,
    )

-- Of two of them
pub both_drawn : (terms : Terms) {store bytes out free others rest : List ℕ} {h k : Handed} → Draws terms store bytes out h
    → Draws terms free others rest k → h.answer ≡ Done → length free ≡ store_size → others ≡ expansion terms bytes
    → DrawnAlike terms bytes h k
both_drawn terms {bytes = bytes} {free = free} {rest = rest} {k = k} d e a s q =
    let x = expanded terms bytes (d.accepted a) in
    let f = subst (λ (l : List ℕ). Draws terms free l rest k) q e in
    record {
      accepted = x.accepted;
      not_refused = f.not_refused s x.accepted;
      records = λ b. d.records a ∙ x.same.records ∙ sym (f.records b);
      state = λ b.
          subst (λ (v : State). SameState v k.state) (sym (d.state a))
          (subst (SameState (end_page terms bytes).state) (sym (f.state b)) x.same.state);
    }

-- What the loop of a reading keeps: the whole is what was read so far, and then the reading from here
use Rattle.std.specs.Prelude.{◌+◌, ◌-◌, ◌≤◌, ◌<◌, ◌≡◌, ◌++◌}
use Rattle.reading.proofs.Prelude.{ℕ, suc, add-zero, zero-add, sub-zero, add-suc, suc-add, add-one, arith, refl, sym, ap, ◌∙◌, subst, List, append-nil, append_assoc, length, take, drop, length-append, take-append-drop, ltb, ltb-false, take_at, drop_at, length-take-le, drop-drop}
use Rattle.rules.specs.declared.Answer.{Answer}
use Rattle.rules.specs.Numbers.{room_for_step}
use Rattle.rules.specs.Record.{bytes_of_all}
use Rattle.rules.specs.Step.{State, Source, FromBody, FromPiece}
use Rattle.rules.specs.Turn.{Taken, Turn, Ends, Takes, turn}
use Rattle.rules.specs.Reading.{Reading, Room, rests, consumed_by, step_then, reading, steps_left, Valid}
use Rattle.rules.specs.Calls.{handed}
use Rattle.rules.proofs.Readings.{reads_ends, reads_takes}
use Rattle.rules.proofs.Turns.{turn_advances}
use Rattle.records.specs.Bytes.{overwrite}
use Rattle.records.proofs.Writes.{overwrite_length}
use Rattle.steps.specs.declared.Course.{Course}
use Rattle.steps.specs.declared.Course.TheVariants.{GoesOn, Ends as Ends·course, Draws}
use Rattle.steps.specs.Leaving.{Left, leaves}
use Rattle.coded_turns.specs.Walk.{placed, Stands, none, step}
use Rattle.coded_turns.proofs.ProgressLaws.{walk_stands}

-- So many bytes consumed and records written before a reading
abbrev ahead : ℕ → List ℕ → Reading → Reading
ahead n rs x = record { answer = x.answer; state = x.state; consumed = n + x.consumed; records = rs ++ x.records }

ahead_after : (s : Source) (n : ℕ) (rs bs : List ℕ) (x : Reading) → ahead n rs (step_then s bs x) ≡ ahead (consumed_by s n) (rs ++ bs) x
ahead_after FromBody n rs bs x = rw append_assoc
ahead_after FromPiece n rs bs x = rw (append_assoc, add-suc, suc-add)

drop_on : (s : Source) (n : ℕ) (l : List ℕ) → drop (consumed_by s 0) (drop n l) ≡ drop (consumed_by s n) l
drop_on FromBody n l = refl
drop_on FromPiece n l = drop-drop 1 n l ∙ ap (λ (k : ℕ). drop k l) (add-one n)

abbrev pub whole_reading : State → List ℕ → List ℕ → Reading
whole_reading w piece out = reading (Room (length out)) (steps_left w) w piece

pub record Kept (w₀ : State) (piece out₀ : List ℕ) (w : State) (at written : ℕ) (out : List ℕ) : Type 0 where
  pub same : whole_reading w₀ piece out₀ ≡ ahead at (take written out) (reading (Room (length out - written)) (steps_left w) w (drop at piece))
  pub past : drop written out ≡ drop written out₀
  pub long : length out ≡ length out₀
  pub stands : Stands piece (placed w at written out)

pub kept_first : (w : State) (piece out : List ℕ) → Valid w → Kept w piece out w 0 0 out
kept_first w piece out v =
    record {
      same = simp (sub-zero, zero-add);
      past = refl;
      long = refl;
      stands = record { sound = v; on = omega arith; within = omega arith };
    }

module _ (w₀ : State) (piece out₀ : List ℕ) (w : State) (at written : ℕ) (out : List ℕ) where
  -- A turn that goes on keeps it
  pub kept_on : {n : ℕ} {t : Taken} → Kept w₀ piece out₀ w at written out
      → steps_left w ≡ suc n → turn (ltb (length out - written) room_for_step) (suc n) w (drop at piece) ≡ Takes t
      → Kept w₀ piece out₀ t.after (consumed_by t.source at) (written + length (bytes_of_all t.records)) (overwrite written (bytes_of_all t.records) out)
  unfolding overwrite
  kept_on {n} {t} i b e =
      let s = t.source in
      let bs = bytes_of_all t.records in
      let f = turn_advances w (drop at piece) i.stands.sound (ltb (length out - written) room_for_step) e in
      let few = f.few in
      let free = ltb-false (length out - written) room_for_step f.free in
      let room : written + length bs ≤ length out = omega arith in
      let lo : length (overwrite written bs out) ≡ length out = overwrite_length bs out written room in
      let ln : length (take written out ++ bs) ≡ written + length bs = length-append (take written out) bs ∙ ap (λ (n : ℕ). n + length bs) (length-take-le written out i.stands.within) in
      let joined : take written out ++ (bs ++ drop (written + length bs) out) ≡ (take written out ++ bs) ++ drop (written + length bs) out = sym (append_assoc (take written out) bs (drop (written + length bs) out)) in
      let so_far : take written out ++ bs ≡ take (written + length bs) (overwrite written bs out) =
      sym (ap (take (written + length bs)) joined ∙ take_at (take written out ++ bs) (drop (written + length bs) out) (written + length bs) ln) in
      let left : n ≡ steps_left t.after = omega (arith, b, f.later.budget, f.later.steps) in
      let free-after : length out - written - length bs ≡ length (overwrite written bs out) - (written + length bs) = omega arith in
      record {
        same =
            i.same
            ∙ ap (λ (m : ℕ). ahead at (take written out) (reading (Room (length out - written)) m w (drop at piece))) b
            ∙ ap (ahead at (take written out)) (reads_takes (Room (length out - written)) n w (drop at piece) e)
            ∙ ahead_after s at (take written out) bs (reading (Room (length out - written - length bs)) n t.after t.rest)
            ∙ rw (so_far, free-after, left, f.rest, drop_on s at piece);
        past =
            ap (drop (written + length bs)) joined
            ∙ drop_at (take written out ++ bs) (drop (written + length bs) out) (written + length bs) ln
            ∙ sym (drop-drop (length bs) written out)
            ∙ ap (drop (length bs)) i.past
            ∙ drop-drop (length bs) written out₀;
        long = lo ∙ i.long;
        stands = walk_stands (step none b e) i.stands;
      }

  -- A turn that ends the reading hands the whole over
  pub kept_ends : (a : Answer) (v : State) → Kept w₀ piece out₀ w at written out
      → reading (Room (length out - written)) (steps_left w) w (drop at piece) ≡ rests a v
      → record { answer = a; state = v; consumed = at; written = written; output = out } ≡ handed (whole_reading w₀ piece out₀) out₀
  kept_ends a v i f =
      rw (i.same ∙ ap (ahead at (take written out)) f, append-nil (take written out), length-take-le written out i.stands.within, add-zero at, ← i.past)
      (ap (λ (l : List ℕ). record { answer = a; state = v; consumed = at; written = written; output = l }) (sym (take-append-drop written out)))

  abbrev pub Next : Course → Left → Type 0
  Next GoesOn x =
      (Kept w₀ piece out₀ x.state x.consumed x.written x.output)
      × (x.state.session.steps ≡ 1 + w.session.steps)
      × (w.session.steps < w.session.budget)
  Next (Ends·course a) x =
      record { answer = a; state = x.state; consumed = x.consumed; written = x.written; output = x.output } ≡ handed (whole_reading w₀ piece out₀) out₀
  Next (Draws a y) x = Unit

  turn_next : {n : ℕ} (t : Turn n) → Kept w₀ piece out₀ w at written out
      → steps_left w ≡ n → turn (ltb (length out - written) room_for_step) n w (drop at piece) ≡ t
      → Next (leaves t at written out).course (leaves t at written out)
  unfolding leaves
  turn_next {n} (Ends a v) i b e =
      kept_ends a v i
      (ap (λ (m : ℕ). reading (Room (length out - written)) m w (drop at piece)) b ∙ reads_ends (Room (length out - written)) n w (drop at piece) e)
  turn_next (Takes t) i b e =
      (kept_on i b e, (turn_advances w (drop at piece) i.stands.sound (ltb (length out - written) room_for_step) e).later.steps, omega (arith, b))

  -- What a turn leaves, as a function of it answered
  pub kept_next : (x : Left) → Kept w₀ piece out₀ w at written out
      → x ≡ leaves (turn (ltb (length out - written) room_for_step) (steps_left w) w (drop at piece)) at written out → Next x.course x
  kept_next x i e =
      subst (λ (y : Left). Next y.course y) (sym e)
      (turn_next (turn (ltb (length out - written) room_for_step) (steps_left w) w (drop at piece)) i refl refl)

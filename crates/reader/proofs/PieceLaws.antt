-- A piece fed from its consumed position on, call after call, reads as the undivided reading does
use Rattle.std.specs.Prelude.{◌≡◌, ◌+◌, ◌≤◌, ◌<◌}
use Rattle.reader.specs.Prelude.{refl, sym, ap, ap₂, ◌∙◌, subst, List, [], ℕ, arith, length, drop, length-drop, drop-drop}
use Rattle.rules.specs.declared.Answer.{Answer}
use Rattle.rules.specs.declared.Answer.TheVariants.{Done, Full, Refused}
use Rattle.rules.specs.Numbers.{room_for_step}
use Rattle.rules.specs.Step.{State, state_lent}
use Rattle.rules.specs.Reading.{Reading, undivided, steps_left}
use Rattle.rules.specs.Calls.{Handed, feed, unread, Lent, feeds}
use Rattle.rules.proofs.CallLaws.{feed_kept}
use Rattle.rules.proofs.Cutting.{cutting}
use Rattle.rules.proofs.Feeding.{full_goes_on, full_leaves_less, done_leaves_less}
use Rattle.rules.specs.declared.Fed.{Fed}
use Rattle.rules.specs.Promises.{Feeds}
use Rattle.reader.specs.PieceRead.{NextAfter, PieceRead}

-- After calls that began in the state w and left v, the piece unread from a position on: its reading from there ends as that of the
-- whole piece does
pub record PieceUnread (w : State) (piece : List ℕ) (at : ℕ) (v : State) : Type 0 where
  pub within : at ≤ length piece
  pub state : (undivided v (unread piece at)).state ≡ (undivided w piece).state
  pub answer : (undivided v (unread piece at)).answer ≡ (undivided w piece).answer

pub piece_first : (w : State) (piece : List ℕ) → PieceUnread w piece 0 w
unfolding unread
piece_first w piece = record { within = omega arith; state = refl; answer = refl }

-- One call more
module _ {w : State} {piece : List ℕ} {at : ℕ} {v : State} {out : List ℕ} {r : Fed} {left written : List ℕ}
    (g : PieceUnread w piece at v) (f : Feeds v (unread piece at) out r left written) where
  pub piece_within : at + r.consumed ≤ length piece
  unfolding feed unread
  piece_within =
      let i = g.within in
      let k = (feed_kept v (drop at piece) (length out)).consumed in
      omega (arith, k, length-drop at piece, ap (λ (h : Handed). h.consumed) f.same)

  answered : r.answer ≡ (feed v (unread piece at) out).answer
  answered = ap (λ (h : Handed). h.answer) f.same

  -- What is unread after it, from the state that it left
  rest : undivided (state_lent r.session left) (unread piece (at + r.consumed))
      ≡ undivided (feed v (unread piece at) out).state (unread (unread piece at) (feed v (unread piece at) out).consumed)
  unfolding unread
  rest =
      ap₂ undivided (ap (λ (h : Handed). h.state) f.same)
      (sym (drop-drop r.consumed at piece) ∙ ap (λ (h : Handed). drop h.consumed (drop at piece)) f.same)

  -- Where it ends full, the next goes on from the bytes it consumed
  pub piece_on : r.answer ≡ Full → PieceUnread w piece (at + r.consumed) (state_lent r.session left)
  piece_on a =
      let on = full_goes_on v (unread piece at) out (sym answered ∙ a) in
      record {
        within = piece_within;
        state = ap (λ (x : Reading). x.state) rest ∙ sym (ap (λ (x : Reading). x.state) on) ∙ g.state;
        answer = ap (λ (x : Reading). x.answer) rest ∙ sym (ap (λ (x : Reading). x.answer) on) ∙ g.answer;
      }

  -- and less of the budget is left
  pub piece_less : room_for_step ≤ length out → r.answer ≡ Full → steps_left (state_lent r.session left) < steps_left v
  piece_less m a =
      subst (λ (u : State). steps_left u < steps_left v) (sym (ap (λ (h : Handed). h.state) f.same))
      (full_leaves_less v (unread piece at) out m (sym answered ∙ a))

  -- Where it does not, the whole piece is read
  pub piece_read : {N : Type 0} {read ends n : N} → NextAfter read ends n r.answer
      → PieceRead read ends w piece n (state_lent r.session left)
  unfolding feeds
  piece_read {read = read} {ends = ends} {n = n} h =
      let c : Lent = record { further = unread piece at; buffer = out } in
      let e = (cutting v c []).not_full (λ a. subst (NextAfter read ends n) (answered ∙ a) h) in
      record {
        state = ap (λ (h : Handed). h.state) f.same ∙ ap (λ (x : Reading). x.state) e ∙ g.state;
        next = subst (NextAfter read ends n) (answered ∙ ap (λ (x : Reading). x.answer) e ∙ g.answer) h;
      }

-- A piece that has bytes and is read leaves less of the budget
pub read_less : {N : Type 0} {read ends : N} {w : State} {piece : List ℕ} {n : N} {v : State} → PieceRead read ends w piece n v
    → (read ≡ ends → ⊥) → n ≡ read → 0 < length piece → steps_left v < steps_left w
read_less {read = read} {ends = ends} {w = w} {piece = piece} {n = n} {v = v} h d e m =
    subst (λ (u : State). steps_left u < steps_left w) (sym h.state) (done_leaves_less w piece m (by (undivided w piece).answer h.next))
  where
    by : (a : Answer) → NextAfter read ends n a → a ≡ Done
    by Done k = refl
    by Full k = absurd k
    by (Refused r) k = absurd (d (sym e ∙ k))

-- One feed call more after a list of them, and what the list then comes to
use Rattle.std.specs.Prelude.{◌+◌, ◌-◌, ◌≤◌, ◌<◌, ◌≡◌, ◌∷◌, ◌++◌}
use Rattle.demands.specs.Prelude.{ℕ, zero, suc, min, max, add-zero, zero-min, min-zero, suc-min-suc, add-one, arith, refl, sym, ap, ap₂, ◌∙◌, subst, List, [], append_assoc, length, get_or, take, drop, length-append, length-drop, length-take, take-append-drop, drop_of_length-le, take-append_seam, drop-append_seam, drop-append-le, drop-append-add, drop-drop, drop-cons, get_or-drop, take-add, length-take-le}
use Rattle.rules.specs.declared.Answer.TheVariants.{Done, Full}
use Rattle.rules.specs.Step.{State, remove_spent, NothingLeft, seek, Some, state_lent}
use Rattle.rules.specs.Reading.{Reading, Room, Steps, rests, read_to, undivided}
use Rattle.rules.specs.Calls.{Terms, fresh_state, Handed, handed, feed, unread, Lent, returned, join, feeds, lent_bytes}
use Rattle.rules.proofs.Cutting.{join_rests, returned_handed, cutting, fresh_no_steps}
use Rattle.rules.proofs.CallLaws.{feed_kept}
use Rattle.rules.proofs.Feeding.{lent_last, feeds_last}
use Rattle.rules.specs.declared.Fed.{Fed}
use Rattle.rules.specs.Promises.{handed_of}
use Rattle.rules.specs.Promises.{Feeds}
use borrow.Rule.Slice.PartMut.{put_mid, Post-is}
use Rattle.demands.specs.Cuts.{total, lent_of, fed_more, fed_all, some_of, fed_cuts, Undivided}

-- Parts of lists

take_min : (n : ℕ) (l : List ℕ) → take (min n (length l)) l ≡ take n l
take_min zero l = rw (zero-min (length l))
take_min (suc n) [] = rw (min-zero (suc n))
take_min (suc n) (x ∷ xs) = rw (suc-min-suc n (length xs)) (ap (λ (r : List ℕ). x ∷ r) (take_min n xs))

onward : {a b : ℕ} → a ≤ b → b ≡ a + (b - a)
onward h = omega arith

take_on : (a b : ℕ) (l : List ℕ) → a ≤ b → take a l ++ take (b - a) (drop a l) ≡ take b l
take_on a b l h = sym (ap (λ (n : ℕ). take n l) (onward h) ∙ take-add a (b - a) l)

-- A part of the output from the end of ks to an edge, with rs written at its start, put back
put_back : (ks rs out : List ℕ) (edge : ℕ) → length ks ≤ edge → length rs ≤ length (take (edge - length ks) (drop (length ks) out))
    → ks ++ ((rs ++ drop (length rs) (take (edge - length ks) (drop (length ks) out))) ++ drop edge (ks ++ drop (length ks) out))
    ≡ (ks ++ rs) ++ drop (length (ks ++ rs)) out
put_back ks rs out edge h k =
    let rest = drop (length ks) out in
    let n = edge - length ks in
    ap (λ (z : List ℕ). ks ++ ((rs ++ drop (length rs) (take n rest)) ++ z))
    (ap (λ (i : ℕ). drop i (ks ++ rest)) (onward h) ∙ drop-append-add ks rest n)
    ∙ ap (λ (z : List ℕ). ks ++ z)
    (append_assoc rs (drop (length rs) (take n rest)) (drop n rest)
    ∙ ap (λ (z : List ℕ). rs ++ z)
    (sym (drop-append-le (length rs) (take n rest) (drop n rest) k)
    ∙ ap (drop (length rs)) (take-append-drop n rest)
    ∙ drop-drop (length rs) (length ks) out
    ∙ ap (λ (i : ℕ). drop i out) (sym (length-append ks rs))))
    ∙ sym (append_assoc ks rs (drop (length (ks ++ rs)) out))

-- One call more after a reading x whose records stand in the output
fed_join : (x : Reading) (page out : List ℕ) (lent edge : ℕ) → length x.records ≤ edge
    → fed_more (handed x out) page lent edge
    ≡ handed
    (join x (returned (feed x.state (unread (take lent page) x.consumed) (take (edge - length x.records) (drop (length x.records) out)))))
    out
unfolding feed
fed_join x page out lent edge h =
    let k = length x.records in
    let piece = unread (take lent page) x.consumed in
    let buffer = take (edge - k) (drop k out) in
    let y = read_to (Room (length buffer)) x.state piece in
    let p = take-append_seam x.records (drop k out) in
    let q = drop-append_seam x.records (drop k out) in
    ap₂
    (λ (a b : List ℕ).
    let f = feed x.state piece (take (edge - k) b) in
    record {
      answer = f.answer;
      state = f.state;
      consumed = x.consumed + f.consumed;
      written = k + f.written;
      output = a ++ (f.output ++ drop edge (x.records ++ drop k out));
    })
    p q
    ∙ joined x y out (put_back x.records y.records out edge h (feed_kept x.state piece (length buffer)).written)
    ∙ ap (λ (z : Reading). handed (join x z) out) (sym (returned_handed y buffer))
  where
    joined : (x y : Reading) (out : List ℕ) {l : List ℕ} → l ≡ (join x y).records ++ drop (length (join x y).records) out
        → record { answer = y.answer; state = y.state; consumed = x.consumed + y.consumed; written = length x.records + length y.records; output = l }
        ≡ handed (join x y) out
    joined x y out e i =
        record {
          answer = y.answer;
          state = y.state;
          consumed = x.consumed + y.consumed;
          written = sym (length-append x.records y.records) i;
          output = e i;
        }

-- What stands of the bounds after a call more
record Within (lent edge : ℕ) (b h : Handed) : Type 0 where
  pub read : h.consumed ≤ lent
  pub written : h.written ≤ edge
  pub sized : length h.output ≡ length b.output

fed_within : (h : Handed) (page : List ℕ) (lent edge : ℕ) → h.consumed ≤ lent → h.written ≤ edge → edge ≤ length h.output
    → Within lent edge h (fed_more h page lent edge)
unfolding feed unread
fed_within h page lent edge m n g =
    let piece = unread (take lent page) h.consumed in
    let buffer = take (edge - h.written) (drop h.written h.output) in
    let x = read_to (Room (length buffer)) h.state piece in
    let k = feed_kept h.state piece (length buffer) in
    let a = length-drop h.consumed (take lent page) in
    let c = length-take lent page in
    let b = length-take (edge - h.written) (drop h.written h.output) in
    let s = k.consumed in
    let t = k.written in
    let d = length-drop h.written h.output in
    let u = length-drop edge h.output in
    let v = length-drop (length x.records) buffer in
    let e = length-take-le h.written h.output (omega arith) in
    record {
      read = omega arith;
      written = omega arith;
      sized = simp length-append (omega arith);
    }

-- Of feed's promise, lent what is unread of a page's first bytes and a part of the output
module _ (b : Fed) (st page out : List ℕ) (lent edge : ℕ) (r : Fed) (left part : List ℕ)
    (f : Feeds (state_lent b.session st) (unread (take lent page) b.consumed) (take (edge - b.written) (drop b.written out)) r left part) where
  -- With the part back in the output, it is one call more
  pub fed_more_lem : b.written ≤ edge
      → handed_of (record { answer = r.answer; consumed = b.consumed + r.consumed; written = b.written + r.written; session = r.session }) left (put_mid b.written (edge - b.written) out part)
      ≡ fed_more (handed_of b st out) page lent edge
  fed_more_lem h =
      ap₂
      (λ (g : Handed) (z : List ℕ).
      record {
        answer = g.answer;
        state = g.state;
        consumed = b.consumed + g.consumed;
        written = b.written + g.written;
        output = take b.written out ++ (g.output ++ z);
      })
      f.same (Post-is b.written edge out h)

  pub fed_counts : b.consumed ≤ lent → b.written ≤ edge → edge ≤ length out
      → (b.consumed + r.consumed ≤ lent) × (b.written + r.written ≤ edge)
  fed_counts m n g =
      let h = handed_of b st out in
      let k = subst (Within lent edge h) (sym (fed_more_lem n)) (fed_within h page lent edge m n g) in
      (k.read, k.written)

-- What calls from w came to, the bytes of the page lent so far and the output they began with
record Come (w : State) (page out : List ℕ) (lent : ℕ) (h : Handed) : Type 0 where
  first : Lent
  others : List Lent
  bytes : lent_bytes first others ≡ take lent page
  same : h ≡ handed (feeds w [] first others) out

-- After a first call
come_first : (w : State) (page out : List ℕ) (lent edge : ℕ) → Come w page out lent (fed_more (handed (rests Done w) out) page lent edge)
unfolding feeds unread
come_first w page out lent edge =
    record {
      first = c;
      others = [];
      bytes = refl;
      same = fed_join (rests Done w) page out lent edge (omega arith) ∙ ap (λ (z : Reading). handed z out) (join_rests Done w (returned (feed w c.further c.buffer)));
    }
  where
    c : Lent
    c = record { further = take lent page; buffer = take (edge - 0) out }

-- After one more
come_more : (w : State) (page out : List ℕ) (lent next edge : ℕ) (h : Handed) → h.consumed ≤ lent → lent ≤ next → lent ≤ length page
    → h.written ≤ edge → Come w page out lent h → Come w page out next (fed_more h page next edge)
unfolding unread
come_more w page out lent next edge h r n m k t =
    let c = t.first in
    let cs = t.others in
    let x = feeds w [] c cs in
    let at = length x.records in
    let e : Lent = record { further = take (next - lent) (drop lent page); buffer = take (edge - at) (drop at out) } in
    let q : lent_bytes c cs ++ e.further ≡ take next page = ap (λ (z : List ℕ). z ++ e.further) t.bytes ∙ take_on lent next page n in
    let l = ap length t.bytes ∙ length-take-le lent page m in
    let r' : x.consumed ≤ lent = subst (λ (g : Handed). g.consumed ≤ lent) t.same r in
    let k' : at ≤ edge = subst (λ (g : Handed). g.written ≤ edge) t.same k in
    record {
      first = c;
      others = cs ++ (e ∷ []);
      bytes = lent_last c cs e ∙ q;
      same =
          ap (λ (g : Handed). fed_more g page next edge) t.same
          ∙ fed_join x page out next edge k'
          ∙ ap (λ (z : List ℕ). handed (join x (returned (feed x.state z e.buffer))) out)
          (ap (drop x.consumed) (sym q) ∙ drop-append-le x.consumed (lent_bytes c cs) e.further (omega arith))
          ∙ ap (λ (z : Reading). handed z out) (sym (feeds_last w [] c cs e));
    }

-- The theorem of cutting, of what the calls came to
come_undivided : (w : State) (page out : List ℕ) (lent : ℕ) (h : Handed) → Come w page out lent h → h.written ≤ length out → Undivided w (take lent page) out h
come_undivided w page out lent h t m =
    let x = feeds w [] t.first t.others in
    let c = cutting w t.first t.others in
    let a = ap (λ (g : Handed). g.answer) t.same in
    let s = ap (λ (g : Handed). g.state.session.steps) t.same in
    record {
      not_full = λ n.
          t.same ∙ ap (λ (z : Reading). handed z out) (c.not_full (λ f. n (a ∙ f)))
          ∙ ap (λ (z : List ℕ). handed (undivided w z) out) t.bytes;
      full = λ f.
          t.same ∙ ap (λ (z : Reading). handed z out) (c.full (sym a ∙ f))
          ∙ ap (λ (z : List ℕ). handed (read_to (Steps (x.state.session.steps - w.session.steps)) w z) out) t.bytes
          ∙ ap (λ (k : ℕ). handed (read_to (Steps (k - w.session.steps)) w (take lent page)) out) (sym s);
      removed = λ f.
          subst (λ (g : Handed). remove_spent g.state ≡ g.state) (sym t.same) (c.waits (sym a ∙ f)).removed;
      left = λ f.
          subst (λ (g : Handed). seek g.state (drop g.consumed (take lent page)) ≡ NothingLeft → ⊥) (sym t.same)
          (subst (λ (z : List ℕ). seek x.state (drop x.consumed z) ≡ NothingLeft → ⊥) t.bytes
          (λ q. subst Some q (c.waits (sym a ∙ f)).left));
      within = m;
    }

-- All the calls

record All (w : State) (page out : List ℕ) (lent : ℕ) (h : Handed) : Type 0 where
  read : h.consumed ≤ lent
  written : h.written ≤ length out
  sized : length h.output ≡ length out
  come : Come w page out lent h

all_come : (w : State) (page out ns rooms : List ℕ) (lent : ℕ) (h : Handed) → lent ≤ length page → All w page out lent h
    → All w page out (min (lent + total ns) (length page)) (fed_all h page lent ns rooms)
unfolding fed_all total
all_come w page out [] rooms lent h l a =
    let e : lent ≡ min (lent + 0) (length page) = omega arith in
    subst (λ (n : ℕ). All w page out n h) e a
all_come w page out (n ∷ ns) rooms lent h l a =
    let next = min (lent + n) (length page) in
    let edge = min (h.written + get_or rooms 0 0) (length h.output) in
    let read = a.read in
    let written = a.written in
    let sized = a.sized in
    let m : lent ≤ next = omega arith in
    let o : h.written ≤ edge = omega arith in
    let k = fed_within h page next edge (omega arith) o (omega arith) in
    let x = k.written in
    let y = k.sized in
    let e : min (next + total ns) (length page) ≡ min (lent + (n + total ns)) (length page) = omega arith in
    subst (λ (i : ℕ). All w page out i (fed_all (fed_more h page next edge) page next ns (drop 1 rooms))) e
    (all_come w page out ns (drop 1 rooms) next (fed_more h page next edge) (omega arith)
    (record {
      read = k.read;
      written = omega arith;
      sized = y ∙ sized;
      come = come_more w page out lent next edge h read m l o a.come;
    }))

-- From the first
all_from : (w : State) (page out : List ℕ) (n : ℕ) (ns rooms : List ℕ)
    → All w page out (min (n + total ns) (length page)) (fed_all (handed (rests Done w) out) page 0 (n ∷ ns) rooms)
unfolding fed_all
all_from w page out n ns rooms =
    let next = min (0 + n) (length page) in
    let edge = min (0 + get_or rooms 0 0) (length out) in
    let start = handed (rests Done w) out in
    let k = fed_within start page next edge (omega arith) (omega arith) (omega arith) in
    let x = k.written in
    let e : min (next + total ns) (length page) ≡ min (n + total ns) (length page) = omega arith in
    subst (λ (i : ℕ). All w page out i (fed_all (fed_more start page next edge) page next ns (drop 1 rooms))) e
    (all_come w page out ns (drop 1 rooms) next (fed_more start page next edge) (omega arith)
    (record { read = k.read; written = omega arith; sized = k.sized; come = come_first w page out next edge }))

cuts_all : (w : State) (page lengths rooms out : List ℕ) → All w page out (min (total lengths) (length page)) (fed_cuts w page lengths rooms out)
unfolding fed_cuts total
cuts_all w page [] rooms out = all_from w page out 0 [] rooms
cuts_all w page (n ∷ ns) rooms out = all_from w page out n ns rooms

-- The theorem of cutting, of all the calls
pub cuts_undivided : (w : State) (page lengths rooms out : List ℕ)
    → Undivided w (lent_of page lengths) out (fed_cuts w page lengths rooms out)
cuts_undivided w page lengths rooms out =
    let a = cuts_all w page lengths rooms out in
    subst (λ (z : List ℕ). Undivided w z out (fed_cuts w page lengths rooms out)) (take_min (total lengths) page)
    (come_undivided w page out (min (total lengths) (length page)) (fed_cuts w page lengths rooms out) a.come a.written)

-- From a fresh session the steps are those that the session counts
pub fresh_calls : (terms : Terms) (bytes out : List ℕ) (h : Handed) → Undivided (fresh_state terms) bytes out h → h.answer ≡ Full
    → h ≡ handed (read_to (Steps h.state.session.steps) (fresh_state terms) bytes) out
fresh_calls terms bytes out h u f =
    u.full f ∙ ap (λ (k : ℕ). handed (read_to (Steps k) (fresh_state terms) bytes) out) (fresh_no_steps terms h.state.session.steps)

-- The loop that makes them

fed_next : (h : Handed) (page : List ℕ) (lent : ℕ) (ns rooms : List ℕ) (i : ℕ) → i < length ns
    → fed_all h page lent (drop i ns) (drop i rooms)
    ≡ fed_all
    (fed_more h page (min (lent + get_or ns i 0) (length page)) (min (h.written + get_or rooms i 0) (length h.output)))
    page (min (lent + get_or ns i 0) (length page)) (drop (i + 1) ns) (drop (i + 1) rooms)
unfolding fed_all
fed_next h page lent ns rooms i k =
    let next = min (lent + get_or ns i 0) (length page) in
    ap (λ (l : List ℕ). fed_all h page lent l (drop i rooms)) (drop-cons ns i 0 k ∙ ap (λ (j : ℕ). get_or ns i 0 ∷ drop j ns) (sym (add-one i)))
    ∙ ap₂ (λ (m : ℕ) (l : List ℕ). fed_all (fed_more h page next (min (h.written + m) (length h.output))) page next (drop (i + 1) ns) l)
    (get_or-drop i rooms 0 0 ∙ ap (λ (j : ℕ). get_or rooms j 0) (add-zero i)) (drop-drop 1 i rooms)

-- The calls before i were lent the page's first lent bytes and came to h: those still to be made bring it to what all come to
pub record Going (w : State) (page lengths rooms out : List ℕ) (i lent : ℕ) (h : Handed) : Type 0 where
  pub bound : lent ≤ length page
  pub read : h.consumed ≤ lent
  pub written : h.written ≤ length h.output
  pub made : fed_all h page lent (drop i (some_of lengths)) (drop i rooms) ≡ fed_cuts w page lengths rooms out

-- At least one call is made, and one past the last length is lent nothing
some_length : (lengths : List ℕ) → length (some_of lengths) ≡ max (length lengths) 1
some_length [] = refl
some_length (n ∷ ns) = omega arith

some_get : (lengths : List ℕ) (i : ℕ) → get_or (some_of lengths) i 0 ≡ get_or lengths i 0
some_get [] zero = refl
some_get [] (suc i) = refl
some_get (n ∷ ns) i = refl

module _ (w : State) (page lengths rooms out : List ℕ) where
  pub going_first : Going w page lengths rooms out 0 0 (handed (rests Done w) out)
  unfolding fed_cuts
  going_first = record { bound = omega arith; read = omega arith; written = omega arith; made = refl }

  pub going_more : (i lent : ℕ) (h : Handed) (next edge : ℕ) (k : Handed)
      → Going w page lengths rooms out i lent h → i < max (length lengths) 1
      → next ≡ min (lent + get_or lengths i 0) (length page) → edge ≡ min (h.written + get_or rooms i 0) (length h.output)
      → k ≡ fed_more h page next edge → Going w page lengths rooms out (i + 1) next k
  going_more i lent h next edge k g t q r e =
      let bound = g.bound in
      let read = g.read in
      let written = g.written in
      let x = subst (Within next edge h) (sym e) (fed_within h page next edge (omega arith) (omega arith) (omega arith)) in
      let y = x.written in
      let z = x.sized in
      let s = some_length lengths in
      record {
        bound = omega arith;
        read = x.read;
        written = omega arith;
        made =
            ap (λ (y : Handed). fed_all y page next (drop (i + 1) (some_of lengths)) (drop (i + 1) rooms)) e
            ∙ ap₂ (λ (u v : ℕ). fed_all (fed_more h page u v) page u (drop (i + 1) (some_of lengths)) (drop (i + 1) rooms))
            (q ∙ ap (λ (j : ℕ). min (lent + j) (length page)) (sym (some_get lengths i))) r
            ∙ sym (fed_next h page lent (some_of lengths) rooms i (omega arith))
            ∙ g.made;
      }

  pub going_end : (i lent : ℕ) (h : Handed) → Going w page lengths rooms out i lent h → max (length lengths) 1 ≤ i
      → (h ≡ fed_cuts w page lengths rooms out) × Undivided w (lent_of page lengths) out h
  unfolding fed_all
  going_end i lent h g t =
      let s = some_length lengths in
      let f : h ≡ fed_cuts w page lengths rooms out =
      sym (ap (λ (l : List ℕ). fed_all h page lent l (drop i rooms)) (drop_of_length-le (some_of lengths) {i = i} (omega arith)))
      ∙ g.made in
      (f, subst (Undivided w (lent_of page lengths) out) (sym f) (cuts_undivided w page lengths rooms out))

-- Outcomes carried out
use Rattle.std.specs.Prelude.{◌≡◌, ◌∷◌, ◌++◌, ◌+◌, ◌*◌, ◌≤◌, Result, Ok, Err, IsErr}
use Rattle.std.proofs.Common.{refl, sym, ap, ◌∙◌, true, false, List, [], append-nil, ℕ, add-zero, add_assoc, arith, length, length-append}
use Rattle.rules.specs.declared.Drawing.{Drawing}
use Rattle.rules.specs.declared.Record.{Record}
use Rattle.rules.specs.Record.{bytes_of, bytes_of_all}
use Rattle.rules.proofs.Bools.{false_true}
use Rattle.rules.specs.Drawing.{Outcome, NotDrawn, Draw, prepend, and_then}
pub use Rattle.rules.specs.Statements.{Draws}
use Rattle.rules.proofs.RecordCount.{record_length, records_length, records_append, AtMost}
use Rattle.records.specs.Bytes.{overwrite}
use Rattle.records.proofs.Writes.{overwrite_none, overwrite_length, overwrite_next}
use Rattle.figures.specs.declared.TooManyVertices.{TooManyVertices}
use Rattle.figures.specs.Carried.{Carried, carry, Puts, carried_of}

-- No record: the place and the output are left
pub carry_none : (e d : Drawing) (at : ℕ) (out : List ℕ) → carry (Draw e []) d at out ≡ record { refused = false; drawing = e; at = at; output = out }
unfolding carry bytes_of_all
carry_none e d at out = rw (add-zero, overwrite_none)

-- One record: its 40 bytes at the place
pub carry_one : (r : Record) (e d : Drawing) (at : ℕ) (out : List ℕ) → carry (Draw e (r ∷ [])) d at out ≡ record { refused = false; drawing = e; at = at + 40; output = overwrite at (bytes_of r) out }
unfolding carry bytes_of_all
carry_one r e d at out = rw (append-nil, record_length)

-- No record written, and one
pub puts_none : (at : ℕ) (out : List ℕ) → Puts [] at out at out
unfolding bytes_of_all
puts_none at out = (sym (add-zero at), sym (overwrite_none out at))

pub puts_one : (r : Record) (at : ℕ) (out out' : List ℕ) → out' ≡ overwrite at (bytes_of r) out → Puts (r ∷ []) at out (at + 40) out'
unfolding bytes_of_all
puts_one r at out out' w = rw (append-nil (bytes_of r), record_length r) (refl, w)

-- Records written after others
pub puts_then : (rs qs : List Record) (at mid end : ℕ) (out between left : List ℕ) → at ≤ length out
    → Puts rs at out mid between → Puts qs mid between end left → Puts (rs ++ qs) at out end left
puts_then rs qs at mid end out between left h p q =
    (q.0 ∙ ap (λ (n : ℕ). n + length (bytes_of_all qs)) p.0 ∙ add_assoc at (length (bytes_of_all rs)) (length (bytes_of_all qs)) ∙ ap (λ (n : ℕ). at + n) (sym (length-append (bytes_of_all rs) (bytes_of_all qs))) ∙ ap (λ (bs : List ℕ). at + length bs) (sym (records_append rs qs)), q.1 ∙ (λ i. overwrite (p.0 i) (bytes_of_all qs) (p.1 i)) ∙ overwrite_next (bytes_of_all rs) (bytes_of_all qs) out at h ∙ ap (λ (bs : List ℕ). overwrite at bs out) (sym (records_append rs qs)))

-- No record: the state after it, the place and the output as lent
pub none_carried : {o : Outcome} (d e : Drawing) (at : ℕ) (out : List ℕ) → o ≡ Draw e [] → record { refused = false; drawing = e; at = at; output = out } ≡ carry o d at out
none_carried d e at out h = rw h (sym (carry_none e d at out))

-- Records written are carried out
pub puts_carried : {o : Outcome} {rs : List Record} (d e : Drawing) (at at' : ℕ) (out out' : List ℕ) → o ≡ Draw e rs → Puts rs at out at' out'
    → record { refused = false; drawing = e; at = at'; output = out' } ≡ carry o d at out
unfolding carry
puts_carried d e at at' out out' h w =
    (λ i. record { refused = false; drawing = e; at = w.0 i; output = w.1 i }) ∙ ap (λ (x : Outcome). carry x d at out) (sym h)

-- A function that refuses by `?` answers a refusal, whatever the error
pub carried_refused : (r : Result ℕ TooManyVertices) (at : ℕ) (d : Drawing) (out : List ℕ) → IsErr r
    → carried_of r at d out ≡ record { refused = true; drawing = d; at = at; output = out }
carried_refused (Ok n) at d out h = false_true h
carried_refused (Err e) at d out h = refl

-- Of two outcomes, the second from where the first ended
pub carry_then : (e : Drawing) (rs : List Record) (k : Drawing → Outcome) (d : Drawing) (at : ℕ) (out : List ℕ)
    → at ≤ length out
    → Draws (k e)
    → carry (and_then (Draw e rs) k) d at out ≡ carry (k e) e (at + length (bytes_of_all rs)) (overwrite at (bytes_of_all rs) out)
unfolding carry and_then
carry_then e rs k d at out h p = by (k e) p
  where
    by : (o : Outcome) → Draws o → carry (prepend rs o) d at out ≡ carry o e (at + length (bytes_of_all rs)) (overwrite at (bytes_of_all rs) out)
    by (NotDrawn r) q = absurd q
    by (Draw f qs) q = rw (records_append, length-append, ← add_assoc at (length (bytes_of_all rs)) (length (bytes_of_all qs)), overwrite_next (bytes_of_all rs) (bytes_of_all qs) out at h)

module _ (o : Outcome) (k : Drawing → Outcome) (d : Drawing) (at : ℕ) (out : List ℕ) where
  -- A refusal ends both
  pub then_refused : (a : Carried) → a ≡ carry o d at out → a.refused ≡ true → a ≡ carry (and_then o k) d at out
  unfolding carry and_then
  then_refused a e t = by o e
    where
      by : (x : Outcome) → a ≡ carry x d at out → a ≡ carry (and_then x k) d at out
      by (NotDrawn r) f = f
      by (Draw e rs) f = let z : true ≡ false = sym t ∙ ap (λ (y : Carried). y.refused) f in cc

  -- Where the first draws, the second goes on from its answer
  pub then_drawn : (a b : Carried)
      → a ≡ carry o d at out
      → a.refused ≡ false
      → at ≤ length out
      → Draws (k a.drawing)
      → b ≡ carry (k a.drawing) a.drawing a.at a.output
      → b ≡ carry (and_then o k) d at out
  unfolding carry
  then_drawn a b e t h p f = by o e
    where
      by : (x : Outcome) → a ≡ carry x d at out → b ≡ carry (and_then x k) d at out
      by (NotDrawn r) g = let z : true ≡ false = sym (ap (λ (y : Carried). y.refused) g) ∙ t in cc
      by (Draw e rs) g =
          let s = ap (λ (y : Carried). y.drawing) g in
          f
          ∙ ap (λ (y : Carried). carry (k y.drawing) y.drawing y.at y.output) g
          ∙ sym (carry_then e rs k d at out h (rw s at p))

-- The place after at most n records
pub carry_most : (n : ℕ) (o : Outcome) (d : Drawing) (at : ℕ) (out : List ℕ) → AtMost n o → (carry o d at out).at ≤ at + 40 * n
unfolding carry
carry_most n (NotDrawn r) d at out p = omega arith
carry_most n (Draw e rs) d at out p = omega (arith, records_length rs)

-- The output keeps its length where the records fit
pub carry_length : (n : ℕ) (o : Outcome) (d : Drawing) (at : ℕ) (out : List ℕ) → AtMost n o → at + 40 * n ≤ length out → length (carry o d at out).output ≡ length out
unfolding carry
carry_length n (NotDrawn r) d at out p h = refl
carry_length n (Draw e rs) d at out p h = overwrite_length (bytes_of_all rs) out at (omega (arith, records_length rs))

-- Trails against the rules.
use Rattle.std.specs.Prelude.{◌+◌, ◌≤◌, ◌||◌, ◌∷◌, ◌++◌, ◌≡◌}
use Rattle.std.proofs.Common.{ℕ, arith, Bool, true, false, List, [], append-nil, length, refl, sym, ap, ◌∙◌, subst}
use Rattle.rules.specs.declared.Outline.{Outline}
use Rattle.rules.specs.declared.Record.{Record}
use Rattle.rules.specs.declared.Look.{Look}
use Rattle.rules.specs.declared.Point.{Point}
use Rattle.rules.specs.Numbers.{origin}
use Rattle.rules.specs.Choice.{pick}
use Rattle.rules.specs.Operands.{displaced, displaced_out}
use Rattle.rules.specs.Record.{words, bytes_of, flags, record_of, figure}
use Rattle.rules.specs.Increments.{displacement}
use Rattle.rules.proofs.Bools.{pick_no}
use Rattle.records.specs.declared.Head.{Head}
use Rattle.records.specs.Bytes.{head_of, head_bytes}
use Rattle.records.proofs.Heads.{record_bytes}
use Rattle.figures.specs.Carried.{Puts}
use Rattle.figures.proofs.Carrying.{puts_none, puts_then}
use Rattle.outlines.specs.declared.changes.Trail.{Trail}
use Rattle.outlines.specs.declared.Inks.{Inks}
use Rattle.outlines.specs.declared.Coded.{Coded}
use Rattle.outlines.specs.Trails.{moves, altered_trail, vertices_after, next_trail, kind_of, is_drawn, move_record, trail_after, moved_after, code_records, records_after, Inked, MovesOn, Follows}

-- Codes in turn

pub follows_altered : (o : Outline) (x : Inks) (code : ℕ) (k : Coded) (t : Trail) (out : List ℕ)
    → moves code k.trail ≡ false → t ≡ altered_trail o code k.trail
    → Follows o x (code ∷ []) k out (record { at = k.at; moved = k.moved; trail = t }) out
follows_altered o x code k t out m h =
    record {
      trail = h ∙ sym (pick_no _ _ m);
      moved = sym (or_no k.moved (moves code k.trail) m);
      put = λ filled l i. subst (λ (rs : List Record). Puts rs k.at out k.at out) (sym (append-nil _ ∙ pick_no _ _ m)) (puts_none k.at out);
      most = omega arith;
    }
  where
    or_no : (a b : Bool) → b ≡ false → (a || (b || false)) ≡ a
    or_no true b e = refl
    or_no false true e = e
    or_no false false e = refl

pub follows_then : (o : Outline) (x : Inks) (c : ℕ) (cs : List ℕ) (k j r : Coded) (out mid left : List ℕ) → k.at ≤ length out
    → Follows o x (c ∷ []) k out j mid → Follows o x cs j mid r left → Follows o x (c ∷ cs) k out r left
follows_then o x c cs k j r out mid left room f g =
    record {
      trail = g.trail ∙ ap (trail_after o cs) f.trail;
      moved = g.moved ∙ (λ i. f.moved i || moved_after o cs (f.trail i)) ∙ or_then k.moved (moves c k.trail) (moved_after o cs (next_trail o c k.trail));
      put = λ filled l i.
          subst (λ (rs : List Record). Puts (rs ++ records_after o filled cs (next_trail o c k.trail) l) k.at out r.at left) (append-nil (code_records o filled c k.trail l))
          (puts_then (code_records o filled c k.trail l ++ []) (records_after o filled cs (next_trail o c k.trail) l) k.at j.at r.at out mid left room (f.put filled l i)
          (subst (λ (t : Trail). Puts (records_after o filled cs t l) j.at mid r.at left) f.trail (g.put filled l i)));
      most = omega (arith, f.most, g.most);
    }
  where
    or_then : (a b d : Bool) → ((a || (b || false)) || d) ≡ (a || (b || d))
    or_then true b d = refl
    or_then false true d = refl
    or_then false false d = refl

-- The bytes of a move's record, its head chosen by whether a sum left the range
pub move_bytes : (x : Inks) (o : Outline) (filled : Bool) (code : ℕ) (t : Trail) (l : Look) (head : Head) (w : Bool) (q : Point)
    → Inked x o filled l → head ≡ pick w x.wrapped x.plain → w ≡ displaced_out t.point (displacement code t.step)
    → q ≡ displaced t.point (displacement code t.step)
    → head_bytes head ++ words t.point ++ words q ++ words origin ++ words x.pel ≡ bytes_of (move_record o filled code t l)
unfolding figure record_of
move_bytes x o filled code t l head w q i h e f =
    rw (f, i.size)
    (record_bytes (move_record o filled code t l) head
    (ap head_bytes h ∙ by w ∙ ap (λ (b : Bool). head_of (record_of l (kind_of o) (flags filled b false) 0 0 t.point (displaced t.point (displacement code t.step)) origin)) e))
  where
    by : (b : Bool) → head_bytes (pick b x.wrapped x.plain) ≡ head_of (record_of l (kind_of o) (flags filled b false) 0 0 t.point (displaced t.point (displacement code t.step)) origin)
    by true = i.wrapped t.point (displaced t.point (displacement code t.step)) origin
    by false = i.plain t.point (displaced t.point (displacement code t.step)) origin

-- A move, of its parts
pub moves_on : (o : Outline) (x : Inks) (code : ℕ) (k : Coded) (out left : List ℕ) (at n : ℕ) (q : Point) (head : Head) (w drawn : Bool)
    → drawn ≡ is_drawn o k.trail.off → head ≡ pick w x.wrapped x.plain
    → w ≡ displaced_out k.trail.point (displacement code k.trail.step) → q ≡ displaced k.trail.point (displacement code k.trail.step)
    → n ≡ vertices_after o k.trail.vertices
    → ((y : Record) → head_bytes head ++ words k.trail.point ++ words q ++ words origin ++ words x.pel ≡ bytes_of y → Puts (pick drawn (y ∷ []) []) k.at out at left)
    → at ≤ k.at + 40
    → MovesOn o x code k out (record { at = at; moved = true; trail = record { point = q; step = k.trail.step; off = k.trail.off; changes = k.trail.changes; vertices = n } }) left
moves_on o x code k out left at n q head w drawn d h e f v put most =
    record {
      trail = λ i. record { point = f i; step = k.trail.step; off = k.trail.off; changes = k.trail.changes; vertices = v i };
      moved = refl;
      put = λ filled l i.
          let y = move_record o filled code k.trail l in
          subst (λ (b : Bool). Puts (pick b (y ∷ []) []) k.at out at left) d (put y (move_bytes x o filled code k.trail l head w q i h e f));
      most = most;
    }

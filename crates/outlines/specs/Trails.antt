-- Trails: how far an outline has come, apart from the rest of the drawing state
use Rattle.std.specs.Prelude.{◌+◌, ◌*◌, ◌≤◌, ◌||◌, ◌∷◌, ◌++◌, ◌≡◌, ℕ, suc, Bool, true, false, not, List, [], ltb, eqb, length}
use Rattle.rules.specs.declared.Command.{Command}
use Rattle.rules.specs.declared.Due.{Due}
use Rattle.rules.specs.declared.Due.TheVariants.{Second, Third}
use Rattle.rules.specs.declared.Look.{Look}
use Rattle.rules.specs.declared.Outline.{Outline}
use Rattle.rules.specs.declared.Outline.TheVariants.{Line, Polygon}
use Rattle.rules.specs.declared.Point.{Point}
use Rattle.rules.specs.declared.Record.{Record}
use Rattle.rules.specs.Numbers.{most_vertices, origin}
use Rattle.rules.specs.Choice.{pick}
use Rattle.rules.specs.Operands.{displaced, displaced_out}
use Rattle.rules.specs.Record.{flags, record_of, figure}
use Rattle.rules.specs.Increments.{codes, displacement, sign_changed, change_due, changes_after, moves_in}
use Rattle.rules.specs.Drawing.{command_of}
use Rattle.records.specs.Bytes.{head_of, head_bytes}
use Rattle.figures.specs.Carried.{Puts}
use Rattle.outlines.specs.declared.changes.Trail.{Trail}
use Rattle.outlines.specs.declared.Inks.{Inks}
use Rattle.outlines.specs.declared.Coded.{Coded}

abbrev pub trail_of : Point → Command → Trail
trail_of p c = record { point = p; step = c.kept; off = c.noted; changes = change_due c.due; vertices = c.vertices }

abbrev pub due_for : Bool → Due
due_for true = Third
due_for false = Second

-- A command with what its trail has become
abbrev pub on_trail : Trail → Command → Command
on_trail t c = command_of c.opcode (due_for t.changes) t.vertices c.start t.step t.off

-- The draw flag after a change
abbrev pub flag_turned : Outline → Bool → Bool
flag_turned Line off = not off
flag_turned Polygon off = off

abbrev pub flag_after : Outline → ℕ → Bool → Bool
flag_after o code off = pick (eqb code 0) (flag_turned o off) off

-- After a code that is no move
abbrev pub altered_trail : Outline → ℕ → Trail → Trail
altered_trail o code t =
    record {
      point = t.point;
      step = pick t.changes (sign_changed code t.step) t.step;
      off = pick t.changes (flag_after o code t.off) t.off;
      changes = changes_after o code t.changes;
      vertices = t.vertices;
    }

-- After a move
abbrev pub vertices_after : Outline → ℕ → ℕ
vertices_after Line n = n
vertices_after Polygon n = suc n

abbrev pub moved_trail : Outline → ℕ → Trail → Trail
moved_trail o code t =
    record {
      point = displaced t.point (displacement code t.step);
      step = t.step;
      off = t.off;
      changes = t.changes;
      vertices = vertices_after o t.vertices;
    }

abbrev pub moves : ℕ → Trail → Bool
moves code t = not (t.changes || eqb code 0)

abbrev pub next_trail : Outline → ℕ → Trail → Trail
next_trail o code t = pick (moves code t) (moved_trail o code t) (altered_trail o code t)

-- The record of a code, if it has one
abbrev pub kind_of : Outline → ℕ
kind_of Line = 2
kind_of Polygon = 5

abbrev pub is_drawn : Outline → Bool → Bool
is_drawn Line off = not off
is_drawn Polygon off = true

abbrev pub move_record : Outline → Bool → ℕ → Trail → Look → Record
move_record o filled code t l =
    let v = displacement code t.step in
    figure l (kind_of o) (flags filled (displaced_out t.point v) false) t.point (displaced t.point v) origin

abbrev pub code_records : Outline → Bool → ℕ → Trail → Look → List Record
code_records o filled code t l =
    pick (moves code t) (pick (is_drawn o t.off) (move_record o filled code t l ∷ []) []) []

-- The same of codes in turn
abbrev pub trail_after : Outline → List ℕ → Trail → Trail
trail_after o [] t = t
trail_after o (c ∷ cs) t = trail_after o cs (next_trail o c t)

abbrev pub moved_after : Outline → List ℕ → Trail → Bool
moved_after o [] t = false
moved_after o (c ∷ cs) t = moves c t || moved_after o cs (next_trail o c t)

abbrev pub records_after : Outline → Bool → List ℕ → Trail → Look → List Record
records_after o filled [] t l = []
records_after o filled (c ∷ cs) t l = code_records o filled c t l ++ records_after o filled cs (next_trail o c t) l

-- The heads and the pel of an outline's records, by a look
pub record Inked (x : Inks) (o : Outline) (filled : Bool) (l : Look) : Type 0 where
  pub plain : (p q r : Point) → head_bytes x.plain ≡ head_of (record_of l (kind_of o) (flags filled false false) 0 0 p q r)
  pub wrapped : (p q r : Point) → head_bytes x.wrapped ≡ head_of (record_of l (kind_of o) (flags filled true false) 0 0 p q r)
  pub size : x.pel ≡ l.domain.pel

-- A code that is a move leads from one place of an output to another
pub record MovesOn (o : Outline) (x : Inks) (code : ℕ) (k : Coded) (out : List ℕ) (r : Coded) (left : List ℕ) : Type 0 where
  pub trail : r.trail ≡ moved_trail o code k.trail
  pub moved : r.moved ≡ true
  pub put : (filled : Bool) (l : Look) → Inked x o filled l
      → Puts (pick (is_drawn o k.trail.off) (move_record o filled code k.trail l ∷ []) []) k.at out r.at left
  pub most : r.at ≤ k.at + 40

-- Codes in turn lead from one place of an output to another
pub record Follows (o : Outline) (x : Inks) (cs : List ℕ) (k : Coded) (out : List ℕ) (r : Coded) (left : List ℕ) : Type 0 where
  pub trail : r.trail ≡ trail_after o cs k.trail
  pub moved : r.moved ≡ (k.moved || moved_after o cs k.trail)
  pub put : (filled : Bool) (l : Look) → Inked x o filled l → Puts (records_after o filled cs k.trail l) k.at out r.at left
  pub most : r.at ≤ k.at + 40 * length cs

-- A byte has a vertex too many
abbrev pub overflows : Outline → ℕ → Trail → Bool
overflows Line byte t = false
overflows Polygon byte t = ltb most_vertices (t.vertices + moves_in Polygon (codes byte) t.changes)

-- A code is due, which tells the command from what its trail has become
abbrev pub IsCodes : Due → Type 0
IsCodes n = due_for (change_due n) ≡ n

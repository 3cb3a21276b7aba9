-- Points that come whole, in a run.
use Rattle.std.specs.Prelude.{◌+◌, ◌-◌, ◌≤◌, ◌≡◌}
use Rattle.command_runs.proofs.Prelude.{ℕ, suc, arith, refl, sym, ap, ◌∙◌, subst, Bool, true, List, length, take, drop}
use Rattle.rules.specs.declared.Command.{Command}
use Rattle.rules.specs.declared.Domain.{Domain}
use Rattle.rules.specs.declared.Drawing.{Drawing}
use Rattle.rules.specs.declared.Look.{Look}
use Rattle.rules.specs.declared.Operand.{Operand}
use Rattle.rules.specs.declared.Pen.{Pen}
use Rattle.rules.specs.declared.Point.{Point}
use Rattle.rules.specs.declared.Record.{Record}
use Rattle.rules.specs.declared.Role.{Role}
use Rattle.rules.specs.declared.Role.TheVariants.{MoveTo, DrawTo, DrawBy, Middle, ArcEnd, Start, Edge, StepSize, LineCodes, PolygonCodes, Lengths, Pel, TextFirst, TextSecond, TextField, TextMore, Foreground, Background, Shade, Dropped}
use Rattle.rules.specs.declared.Row.{Row}
use Rattle.rules.specs.declared.Set.TheVariants.{Pdi}
use Rattle.rules.specs.declared.Text.{Text}
use Rattle.rules.specs.Numbers.{room_for_step}
use Rattle.rules.specs.Operands.{point, all_data}
use Rattle.rules.specs.Text.{follow}
use Rattle.rules.specs.Drawing.{row_of, role_of, due_after, length_of, with_due, Draw, apply, next_operand}
use Rattle.rules.proofs.Bools.{false_true}
use Rattle.std.proofs.Common.{Some}
use Rattle.operands.specs.Data.{whole_of}
use Rattle.figures.specs.Carried.{Carried, Puts, drawing_of}
use Rattle.figures.specs.Tracing.{pen_at, is_point}
use Rattle.figures.proofs.Carrying.{puts_carried}
use Rattle.drawing_runs.specs.Run.{Run, standing}
use Rattle.drawing_runs.specs.Strokes.{rested, pen_after}
use Rattle.drawing_runs.proofs.RunLaws.{each_data, whole_operand, whole_tells}
use Rattle.drawing_runs.proofs.StrokeLaws.{after_moved}
use Rattle.command_runs.proofs.CommandLaws.{Reaches, Stands, after_fresh, after_eight, after_at}

-- Points have the bytes of a multi-value operand
point_length : (n : Role) (k : ℕ) (o : Domain) → is_point n k ≡ true → length_of n o ≡ o.multi
unfolding is_point length_of
point_length MoveTo k o h = refl
point_length DrawTo k o h = refl
point_length DrawBy k o h = refl
point_length Middle k o h = refl
point_length ArcEnd k o h = refl
point_length Start k o h = refl
point_length Edge k o h = refl
point_length StepSize k o h = false_true h
point_length LineCodes k o h = false_true h
point_length PolygonCodes k o h = false_true h
point_length Lengths k o h = false_true h
point_length Pel k o h = false_true h
point_length TextFirst k o h = false_true h
point_length TextSecond k o h = false_true h
point_length TextField k o h = false_true h
point_length TextMore k o h = false_true h
point_length Foreground k o h = false_true h
point_length Background k o h = false_true h
point_length Shade k o h = false_true h
point_length Dropped k o h = false_true h

-- A point of k bytes after a run's first n, traced
module _ (bytes : List ℕ) (from n : ℕ) (x : Carried) (p : Point) (u : Text) (o : Operand) (c : Command) (l : Look) (m : List ℕ) (at : ℕ) (out : List ℕ) (k : ℕ) where
  abbrev bs : List ℕ
  bs = take k (drop (from + n) bytes)

  abbrev d : Operand → Drawing
  d a = drawing_of (pen_at p u a) c l m

  abbrev row : Row
  row = row_of c.opcode

  abbrev role : Role
  role = role_of row.pattern c.due

  point_run : at + room_for_step ≤ length out → is_point role c.vertices ≡ true → k ≡ l.domain.multi → 1 ≤ k → k ≤ length o.bytes
      → from + n + k ≤ length bytes → o.count ≡ 0 → all_data bs ≡ true
      → (q : Point) (c' : Command) (rs : List Record) (at' : ℕ) (out' : List ℕ)
      → ((a : Operand) → apply role row bs (d a) ≡ Draw (drawing_of (follow q (pen_at p u a)) c' l m) rs) → Puts rs at out at' out'
      → Run Pdi bytes from x n (standing (pen_at p u o) c l m at out)
      → Run Pdi bytes from x (n + k) (standing (rested (follow q (pen_at p u o))) (with_due (due_after row.pattern c'.due) c') l m at' out')
  point_run room h e some most fit zero a q c' rs at' out' t w run =
      let end = drawing_of (rested (follow q (pen_at p u o))) c' l m in
      subst (Run Pdi bytes from x (n + k)) (sym (puts_carried (d o) (next_operand row.pattern end) at at' out out' refl w))
      (whole_operand bytes from n x (d o) at out room k (point_length role c.vertices l.domain h ∙ sym e) some (each_data bytes (from + n) k fit a) fit most zero end rs t run)

-- The same with the names of a loop
points_more : (bytes : List ℕ) (from n : ℕ) (x : Carried) (p : Point) (u : Text) (o : Operand) (c : Command) (l : Look) (m : List ℕ) (at : ℕ) (out : List ℕ) (k : ℕ)
    (row : Row) (role : Role) (three : Bool) (v q : Point) (c' : Command) (rs : List Record) (at' : ℕ) (out' : List ℕ) (c'' : Command)
    → row ≡ row_of c.opcode → role ≡ role_of row.pattern c.due → is_point role c.vertices ≡ true
    → at + room_for_step ≤ length out → k ≡ l.domain.multi → 1 ≤ k → k ≤ length o.bytes
    → from + n + k ≤ length bytes → o.count ≡ 0
    → three ≡ l.domain.three → whole_of three (take k (drop (from + n) bytes)) ≡ Some v
    → ((bs : List ℕ) (a : Operand) → v ≡ point l.domain.three bs → apply role row bs (drawing_of (pen_at p u a) c l m) ≡ Draw (drawing_of (follow q (pen_at p u a)) c' l m) rs)
    → Puts rs at out at' out'
    → c'' ≡ with_due (due_after row.pattern c'.due) c'
    → Run Pdi bytes from x n (standing (pen_at p u o) c l m at out)
    → Run Pdi bytes from x (n + k) (standing (rested (follow q (pen_at p u o))) c'' l m at' out')
points_more bytes from n x p u o c l m at out k row role three v q c' rs at' out' c'' er eo h room e some most fit zero et w t y ec run =
    let z = whole_tells three (take k (drop (from + n) bytes)) v w in
    let t' : (a : Operand) → apply role row (take k (drop (from + n) bytes)) (drawing_of (pen_at p u a) c l m) ≡ Draw (drawing_of (follow q (pen_at p u a)) c' l m) rs =
    λ a. t (take k (drop (from + n) bytes)) a (z.1 ∙ ap (λ (b : Bool). point b (take k (drop (from + n) bytes))) et) in
    rw (ec, er)
    (point_run bytes from n x p u o c l m at out k room (rw (eo, er) at h) e some most fit zero z.0 q c' rs at' out' (rw (eo, er) at t') y run)

-- The same at the place i that a run from the pen p₀ has come to
pub reaches_point : (bytes : List ℕ) (from : ℕ) (x : Carried) (p₀ : Pen) (i : ℕ) (w : Bool) (p : Point) (c : Command) (l : Look) (m : List ℕ) (at : ℕ) (out : List ℕ) (k : ℕ)
    (row : Row) (role : Role) (three : Bool) (v q : Point) (c' : Command) (rs : List Record) (at' : ℕ) (out' : List ℕ) (c'' : Command)
    → from ≤ i → p₀.operand.count ≡ 0 → length p₀.operand.bytes ≡ 8 → Stands p₀ (i - from) w p
    → row ≡ row_of c.opcode → role ≡ role_of row.pattern c.due → is_point role c.vertices ≡ true
    → at + room_for_step ≤ length out → k ≡ l.domain.multi → 1 ≤ k → k ≤ 8 → i + k ≤ length bytes
    → three ≡ l.domain.three → whole_of three (take k (drop i bytes)) ≡ Some v
    → ((bs : List ℕ) (u : Text) (a : Operand) → v ≡ point l.domain.three bs → apply role row bs (drawing_of (pen_at p u a) c l m) ≡ Draw (drawing_of (follow q (pen_at p u a)) c' l m) rs)
    → Puts rs at out at' out'
    → c'' ≡ with_due (due_after row.pattern c'.due) c'
    → Reaches bytes from x p₀ i w p c l m at out
    → Reaches bytes from x p₀ (i + k) true q c'' l m at' out'
reaches_point bytes from x p₀ i w p c l m at out k row role three v q c' rs at' out' c'' g z eight s er eo h room e some most fit et wh t y ec run =
    let n = i - from in
    let j = n + k - 1 in
    let o = (pen_after n w p₀ p).operand in
    let u = (pen_after n w p₀ p).text in
    let here : i ≡ from + n = omega arith in
    let last : suc j ≡ i + k - from = omega arith in
    let next : n + k ≡ i + k - from = omega arith in
    let wh' = subst (λ (j : ℕ). whole_of three (take k (drop j bytes)) ≡ Some v) here wh in
    let before = subst (λ (y : Pen). Run Pdi bytes from x n (standing y c l m at out)) (after_at p₀ n w p s) run in
    let traced =
    points_more bytes from n x p u o c l m at out k row role three v q c' rs at' out' c'' er eo h room e some (omega (arith, after_eight p₀ n w p eight)) (omega arith) (after_fresh p₀ n w p z) et wh' (λ bs a. t bs u a) y ec before in
    let moved : rested (follow q (pen_at p u o)) ≡ pen_after (i + k - from) true p₀ q =
    ap (λ (y : Pen). rested (follow q y)) (sym (after_at p₀ n w p s)) ∙ after_moved n j w p₀ p q ∙ ap (λ (j : ℕ). pen_after j true p₀ q) last in
    subst (λ (y : Pen). Run Pdi bytes from x (i + k - from) (standing y c'' l m at' out')) moved
    (subst (λ (j : ℕ). Run Pdi bytes from x j (standing (rested (follow q (pen_at p u o))) c'' l m at' out')) next traced)

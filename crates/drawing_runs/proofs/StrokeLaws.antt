-- Runs of POINT SET and LINE to points of three bytes in two dimensions.
use Rattle.std.specs.Prelude.{◌+◌, ◌*◌, ◌-◌, ◌<◌, ◌≤◌, ◌≡◌, ◌∷◌, ◌++◌, ◌&&◌}
use Rattle.drawing_runs.specs.Prelude.{ℕ, zero, suc, arith, refl, sym, ap, ◌∙◌, subst, Bool, true, false, not, List, [], length, get_or, take, drop, length-drop, get_or-drop, drop-drop, take_all, eqb}
use Rattle.rules.specs.declared.Command.{Command}
use Rattle.rules.specs.declared.Due.TheVariants.{First}
use Rattle.rules.specs.declared.Drawing.{Drawing}
use Rattle.rules.specs.declared.Look.{Look}
use Rattle.rules.specs.declared.Operand.{Operand}
use Rattle.rules.specs.declared.Pattern.TheVariants.{A}
use Rattle.rules.specs.declared.Pen.{Pen}
use Rattle.rules.specs.declared.Point.{Point}
use Rattle.rules.specs.declared.Record.{Record}
use Rattle.rules.specs.declared.Row.{Row}
use Rattle.rules.specs.declared.Set.TheVariants.{Pdi}
use Rattle.rules.specs.Numbers.{room_for_step, origin}
use Rattle.rules.specs.Operands.{point, all_data}
use Rattle.rules.specs.Record.{words, bytes_of, flags, record_of, figure}
use Rattle.rules.specs.Text.{follow}
use Rattle.rules.proofs.TextLaws.{follow_follow}
use Rattle.rules.specs.Drawing.{row, rows, row_of, role_of, due_after, length_of, with_point, with_operand, with_due, Draw, draw_figure, apply, next_operand}
use Rattle.records.specs.declared.Head.{Head}
use Rattle.records.specs.Bytes.{overwrite, head_bytes}
use Rattle.records.proofs.Heads.{record_bytes}
use Rattle.operands.proofs.WholeLaws.{is_three}
use Rattle.figures.specs.Carried.{Carried, carry, drawing_of}
use Rattle.figures.proofs.Carrying.{carry_none, carry_one}
use Rattle.drawing_runs.specs.Run.{standing, Run, none}
use Rattle.drawing_runs.specs.Strokes.{rested, pen_after, StrokeDue, Moves, Lines}
use Rattle.drawing_runs.proofs.RunLaws.{each_data, whole_operand}

-- The commands, by their rows
pub point_set_row : {o : ℕ} → o ≡ 36 → row_of o ≡ row A 0 false
unfolding row_of rows
point_set_row e = rw e

pub line_row : {o : ℕ} → o ≡ 40 → row_of o ≡ row A 2 false
unfolding row_of rows
line_row e = rw e

-- A whole operand keeps the command ready for the next
ready_after : (n kind : ℕ) (p : Pen) (c : Command) (l : Look) (q : Point) → StrokeDue kind p c l → StrokeDue kind (pen_after n true p q) c l
ready_after zero kind p c l q r = r
ready_after (suc n) kind p c l q r =
    record { drawn = r.drawn; due = r.due; multi = r.multi; plane = r.plane; fresh = refl; eight = refl }

-- Where the point was moved before, it is moved on: the cursor follows the last point alone
pub after_moved : (n k : ℕ) (w : Bool) (p : Pen) (old q : Point) → rested (follow q (pen_after n w p old)) ≡ pen_after (suc k) true p q
after_moved zero k w p old q = refl
after_moved (suc n) k true p old q = ap rested (follow_follow q old p)
after_moved (suc n) k false p old q = refl

after_point : (n : ℕ) (p : Pen) (old q : Point) → rested (follow q (pen_after n true p old)) ≡ pen_after (n + 3) true p q
after_point n p old q =
    let next : suc (n + 2) ≡ n + 3 = omega arith in
    after_moved n (n + 2) true p old q ∙ ap (λ (k : ℕ). pen_after k true p q) next

-- The next three bytes
module _ (bytes : List ℕ) (from n : ℕ) (q : Point) (h : from + n + 3 ≤ length bytes)
    (all : all_data (take 3 (drop (from + n) bytes)) ≡ true) (is : q ≡ point false (take 3 (drop (from + n) bytes))) where
  next : suc (n + 2) ≡ n + 3
  next = omega arith

  -- By the figure that the command draws
  stroke : (kind : ℕ) (x : Carried) (p₀ p : Pen) (c : Command) (l : Look) (m : List ℕ) (at : ℕ) (out : List ℕ) (rs : List Record)
      → rested (follow q p) ≡ pen_after (n + 3) true p₀ q → StrokeDue kind p c l → at + room_for_step ≤ length out
      → ((o : Operand) → draw_figure kind false false q (with_operand o (drawing_of p c l m)) ≡ Draw (with_operand o (with_point q (drawing_of p c l m))) rs)
      → Run Pdi bytes from x n (standing p c l m at out)
      → Run Pdi bytes from x (n + 3) (carry (Draw (drawing_of (pen_after (n + 3) true p₀ q) c l m) rs) (drawing_of p c l m) at out)
  unfolding apply role_of length_of due_after
  stroke kind x p₀ p c l m at out rs moved ready room draws run =
      let d : Drawing = drawing_of p c l m in
      let bs = take 3 (drop (from + n) bytes) in
      let long = ap (λ (y : Row). length_of (role_of y.pattern c.due) l.domain) ready.drawn ∙ ready.multi in
      let applied : (o : Operand) → apply (role_of (row_of c.opcode).pattern c.due) (row_of c.opcode) bs (with_operand o d) ≡ Draw (with_operand o (with_point q d)) rs = λ o.
      ap (λ (y : Row). apply (role_of y.pattern c.due) y bs (with_operand o d)) ready.drawn
      ∙ ap (λ (z : Point). draw_figure kind false false z (with_operand o d)) (ap (λ (t : Bool). point t bs) ready.plane ∙ sym is)
      ∙ draws o in
      let same : with_due First c ≡ c =
      let e = sym ready.due in
      λ i. record { opcode = c.opcode; due = e i; vertices = c.vertices; start = c.start; kept = c.kept; noted = c.noted } in
      let after : next_operand A (with_point q d) ≡ drawing_of (pen_after (n + 3) true p₀ q) c l m =
      ap (λ (e : Command). drawing_of (rested (follow q p)) e l m) same ∙ ap (λ (y : Pen). drawing_of y c l m) moved in
      subst (λ (e : Drawing). Run Pdi bytes from x (n + 3) (carry (Draw e rs) d at out))
      (ap (λ (y : Row). next_operand y.pattern (with_point q d)) ready.drawn ∙ after)
      (whole_operand bytes from n x d at out room 3 long (omega arith) (each_data bytes (from + n) 3 h all) h (omega (arith, ready.eight)) ready.fresh (with_point q d) rs applied run)

  moves_more : (old : Point) → Moves bytes from n old → Moves bytes from (n + 3) q
  unfolding draw_figure
  moves_more old moves p c l m at out ready room =
      let x = standing p c l m at out in
      let p' = pen_after n true p old in
      let run = stroke 0 x p p' c l m at out [] (after_point n p old q) (ready_after n 0 p c l old ready) room (λ o. refl) (moves p c l m at out ready room) in
      subst (λ (y : Carried). Run Pdi bytes from x (n + 3) y) (carry_none (drawing_of (pen_after (n + 3) true p q) c l m) (drawing_of p' c l m) at out) run

  lines_more : (head : Head) (pel p₀ : Point) (at₀ : ℕ) (out₀ : List ℕ) (old : Point) (at : ℕ) (out out' : List ℕ)
      → at + room_for_step ≤ length out
      → out' ≡ overwrite at (head_bytes head ++ words old ++ words q ++ words origin ++ words pel) out
      → Lines bytes from head pel p₀ at₀ out₀ n old at out → Lines bytes from head pel p₀ at₀ out₀ (n + 3) q (at + 40) out'
  unfolding draw_figure figure record_of flags
  lines_more head pel p₀ at₀ out₀ old at out out' room wrote lines p c l m ready start heads pels =
      let x = standing p c l m at₀ out₀ in
      let p' = pen_after n true p old in
      let e : Drawing = drawing_of (pen_after (n + 3) true p q) c l m in
      let before = lines p c l m ready start heads pels in
      let r : Record = figure l 2 0 p'.point q origin in
      let s : Record = record_of l 2 0 0 0 old q origin in
      let same : s ≡ r = ap (λ (z : Point). record_of l 2 0 0 0 z q origin) (sym before.0) in
      let written : out' ≡ overwrite at (bytes_of r) out =
      wrote
      ∙ ap (λ (z : Point). overwrite at (head_bytes head ++ words old ++ words q ++ words origin ++ words z) out) pels
      ∙ ap (λ (z : List ℕ). overwrite at z out) (record_bytes s head (heads old q origin) ∙ ap bytes_of same) in
      let run = stroke 2 x p p' c l m at out (r ∷ []) (after_point n p old q) (ready_after n 2 p c l old ready) room (λ o. refl) before.1 in
      let drawn = subst (λ (y : Carried). Run Pdi bytes from x (n + 3) y) (carry_one r e (drawing_of p' c l m) at out) run in (
        ap (λ (k : ℕ). (pen_after k true p q).point) (sym next),
        subst (λ (y : List ℕ). Run Pdi bytes from x (n + 3) (standing (pen_after (n + 3) true p q) c l m (at + 40) y)) (sym written) drawn,
      )

-- A loop has left the bytes rest, which are the last, and the drawing point is at the last point read
pub record MovesSoFar (bytes rest : List ℕ) (point : Point) : Type 0 where
  pub within : length rest ≤ length bytes
  pub here : rest ≡ drop (length bytes - length rest) bytes
  pub moves : Moves bytes 0 (length bytes - length rest) point

pub rest_fits : (bytes rest : List ℕ) (q : Point) → MovesSoFar bytes rest q → ((i : ℕ) → get_or bytes i 0 < 256) → (i : ℕ) → get_or rest i 0 < 256
rest_fits bytes rest q so_far fits i =
    let n = length bytes - length rest in
    let same : get_or rest i 0 ≡ get_or bytes (n + i) 0 = ap (λ (l : List ℕ). get_or l i 0) so_far.here ∙ get_or-drop n bytes i 0 in
    subst (λ (k : ℕ). k < 256) (sym same) (fits (n + i))

pub moves_on : (bytes rest : List ℕ) (q old : Point) → MovesSoFar bytes rest old → 3 ≤ length rest
    → all_data (take 3 rest) ≡ true → q ≡ point false (take 3 rest)
    → MovesSoFar bytes (take (length rest - 3) (drop 3 rest)) q
moves_on bytes rest q old so_far some all is =
    let n = length bytes - length rest in
    let h = so_far.within in
    let long = length-drop 3 rest in
    let further : n + 3 ≡ length bytes - length (drop 3 rest) = omega (arith, long) in
    let here : rest ≡ drop (0 + n) bytes = so_far.here ∙ ap (λ (k : ℕ). drop k bytes) (omega arith) in
    let after : drop 3 rest ≡ drop (length bytes - length (drop 3 rest)) bytes
    = ap (drop 3) so_far.here ∙ drop-drop 3 n bytes ∙ ap (λ (k : ℕ). drop k bytes) further in
    let moved : Moves bytes 0 (n + 3) q
    = moves_more bytes 0 n q (omega arith) (subst (λ (l : List ℕ). all_data (take 3 l) ≡ true) here all) (subst (λ (l : List ℕ). q ≡ point false (take 3 l)) here is) old so_far.moves in
    subst (λ (l : List ℕ). MovesSoFar bytes l q) (sym (take_all (length rest - 3) (drop 3 rest) (omega (arith, long))))
    (record { within = omega (arith, long); here = after; moves = subst (λ (k : ℕ). Moves bytes 0 k q) further moved })

pub moves_none : (bytes : List ℕ) (q : Point) → MovesSoFar bytes bytes q
moves_none bytes q =
    let none_read : 0 ≡ length bytes - length bytes = omega arith in
    record {
      within = omega arith;
      here = ap (λ (k : ℕ). drop k bytes) none_read;
      moves = subst (λ (k : ℕ). Moves bytes 0 k q) none_read (λ p c l m at out ready room. none);
    }

-- The same after n points
pub lines_on : (bytes : List ℕ) (n : ℕ) (q : Point) → 3 * n + 3 ≤ length bytes
    → all_data (take 3 (drop (3 * n) bytes)) ≡ true → q ≡ point false (take 3 (drop (3 * n) bytes))
    → (head : Head) (pel p₀ : Point) (at : ℕ) (out₀ : List ℕ) (old : Point) (out out' : List ℕ)
    → at + 40 * n + room_for_step ≤ length out
    → out' ≡ overwrite (at + 40 * n) (head_bytes head ++ words old ++ words q ++ words origin ++ words pel) out
    → Lines bytes 0 head pel p₀ at out₀ (3 * n) old (at + 40 * n) out
    → Lines bytes 0 head pel p₀ at out₀ (3 * (n + 1)) q (at + 40 * (n + 1)) out'
lines_on bytes n q h all is head pel p₀ at out₀ old out out' room wrote lines =
    let here : 3 * n ≡ 0 + 3 * n = omega arith in
    let count : 3 * n + 3 ≡ 3 * (n + 1) = omega arith in
    let place : at + 40 * n + 40 ≡ at + 40 * (n + 1) = omega arith in
    subst (λ (k : ℕ). Lines bytes 0 head pel p₀ at out₀ k q (at + 40 * (n + 1)) out') count
    (subst (λ (k : ℕ). Lines bytes 0 head pel p₀ at out₀ (3 * n + 3) q k out') place
    (lines_more bytes 0 (3 * n) q (omega arith) (subst (λ (k : ℕ). all_data (take 3 (drop k bytes)) ≡ true) here all) (subst (λ (k : ℕ). q ≡ point false (take 3 (drop k bytes))) here is)
    head pel p₀ at out₀ old (at + 40 * n) out out' room wrote lines))

-- Where a loop begins
pub lines_none : (bytes : List ℕ) (head : Head) (pel q : Point) (at : ℕ) (out : List ℕ) → Lines bytes 0 head pel q at out 0 q (at + 40 * 0) out
lines_none bytes head pel q at out =
    subst (λ (k : ℕ). Lines bytes 0 head pel q at out 0 q k out) (omega arith) (λ p c l m ready start heads pels. (start, none))

-- What is tested of a pen, a command and a look
pub ready_told : {kind : ℕ} (p : Pen) (c : Command) (l : Look) → length p.operand.bytes ≡ 8 → p.operand.count ≡ 0 → c.due ≡ First
    → (t : Bool) → t ≡ (eqb l.domain.multi 3 && not l.domain.three) → t ≡ true
    → row_of c.opcode ≡ row A kind false → StrokeDue kind p c l
ready_told p c l eight fresh due t e f drawn =
    let g = is_three l.domain.multi l.domain.three t e f in
    record { drawn = drawn; due = due; multi = g.0; plane = g.1; fresh = fresh; eight = eight }

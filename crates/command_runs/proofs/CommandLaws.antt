-- Runs put together.
use Rattle.std.specs.Prelude.{◌+◌, ◌-◌, ◌≤◌, ◌<◌, ◌≡◌, ◌||◌}
use Rattle.command_runs.proofs.Prelude.{ℕ, zero, suc, add-one, arith, refl, sym, ap, ◌∙◌, subst, Bool, true, false, List, length, get_or, lt-ltb, le-ltb}
use Rattle.rules.specs.declared.Action.{Action}
use Rattle.rules.specs.declared.Action.TheVariants.{Control, Opcode, Data}
use Rattle.rules.specs.declared.Command.{Command}
use Rattle.rules.specs.declared.Control.TheVariants.{Ignored, Recorded}
use Rattle.rules.specs.declared.Drawing.{Drawing}
use Rattle.rules.specs.declared.Look.{Look}
use Rattle.rules.specs.declared.Operand.{Operand}
use Rattle.rules.specs.declared.Pen.{Pen}
use Rattle.rules.specs.declared.Point.{Point}
use Rattle.rules.specs.declared.Role.TheVariants.{Dropped}
use Rattle.rules.specs.declared.Row.{Row}
use Rattle.rules.specs.declared.Set.TheVariants.{Pdi}
use Rattle.rules.specs.declared.Text.{Text}
use Rattle.rules.specs.Numbers.{room_for_step}
use Rattle.rules.specs.Coding.{controls}
use Rattle.rules.specs.Drawing.{other, rows, row_of, role_of, Outcome, act}
use Rattle.rules.specs.Text.{follow}
use Rattle.rules.proofs.DrawingRanges.{dropped_same}
use Rattle.rules.proofs.OpcodeRows.{row_at}
use Rattle.rules.proofs.Tables.{at}
use Rattle.rules.proofs.Bools.{true_false, pick_yes, pick_no}
use Rattle.figures.specs.Carried.{Carried, carry, drawing_of}
use Rattle.figures.specs.Tracing.{pen_at, moved_if}
use Rattle.figures.proofs.Carrying.{carry_none}
use Rattle.drawing_runs.specs.declared.Moved.{Moved}
use Rattle.drawing_runs.specs.declared.Ran.{Ran}
use Rattle.drawing_runs.specs.Run.{ActsAs, Run, none, standing}
use Rattle.drawing_runs.specs.Strokes.{rested, pen_after, PassesTo}
use Rattle.command_steps.specs.Asked.{asked}
use Rattle.command_steps.proofs.OpeningLaws.{run_step}
use Rattle.drawing_runs.proofs.ActsLaws.{data_acts, control_acts, opcode_acts}
use Rattle.drawing_runs.proofs.StrokeLaws.{after_moved}

-- The pen after so many bytes: no operand is begun, and it has room for eight bytes
module _ (p₀ : Pen) where
  pub after_fresh : (n : ℕ) (w : Bool) (p : Point) → p₀.operand.count ≡ 0 → (pen_after n w p₀ p).operand.count ≡ 0
  after_fresh zero w p e = e
  after_fresh (suc n) w p e = refl

  pub after_eight : (n : ℕ) (w : Bool) (p : Point) → length p₀.operand.bytes ≡ 8 → length (pen_after n w p₀ p).operand.bytes ≡ 8
  after_eight zero w p e = e
  after_eight (suc n) w p e = refl

  -- It is at the point given, and was not moved before the first byte
  pub record Stands (n : ℕ) (w : Bool) (p : Point) : Type 0 where
    pub here : (pen_after n w p₀ p).point ≡ p
    pub still : n ≡ 0 → w ≡ false

  pub stands_none : (n : ℕ) → Stands n false p₀.point
  stands_none zero = record { here = refl; still = λ e. refl }
  stands_none (suc n) = record { here = refl; still = λ e. refl }

  pub stands_moved : (n : ℕ) (p : Point) → 1 ≤ n → Stands n true p
  stands_moved zero p h = absurd (omega arith)
  stands_moved (suc n) p h = record { here = refl; still = λ e. absurd (omega arith) }

  pub stands_on : (n k : ℕ) (w : Bool) (p : Point) → 1 ≤ k → Stands n w p → Stands k w p
  stands_on n zero w p h s = absurd (omega arith)
  stands_on n (suc k) true p h s = record { here = refl; still = λ e. absurd (omega arith) }
  stands_on zero (suc k) false p h s = record { here = s.here; still = λ e. refl }
  stands_on (suc n) (suc k) false p h s = record { here = s.here; still = λ e. refl }

  stands_either : (n k : ℕ) (w v : Bool) (p q : Point) → 1 ≤ k → (v ≡ false → q ≡ p) → Stands n w p → Stands k (w || v) q
  stands_either n k true true p q h e s = stands_moved k q h
  stands_either n k false true p q h e s = stands_moved k q h
  stands_either n k true false p q h e s = stands_moved k q h
  stands_either n k false false p q h e s = subst (Stands k false) (sym (e refl)) (stands_on n k false p h s)

  pub stands_opened : (n k : ℕ) (w v : Bool) (p q : Point) (u : Bool) → 1 ≤ k → (v ≡ false → q ≡ p) → Stands n w p → u ≡ (w || v) → Stands k u q
  stands_opened n k w v p q u h e s f = subst (λ (x : Bool). Stands k x q) (sym f) (stands_either n k w v p q h e s)

  pub after_at : (n : ℕ) (w : Bool) (p : Point) → Stands n w p
      → pen_after n w p₀ p ≡ pen_at p (pen_after n w p₀ p).text (pen_after n w p₀ p).operand
  after_at n w p s = λ i. record { point = s.here i; text = (pen_after n w p₀ p).text; operand = (pen_after n w p₀ p).operand }

  -- A byte more moves the point, or moves it not
  pub after_opened : (n k : ℕ) (w v : Bool) (p q : Point) → (v ≡ false → q ≡ p) → Stands n w p
      → rested (moved_if v q (pen_after n w p₀ p)) ≡ pen_after (suc k) (w || v) p₀ q
  after_opened n k true true p q e s = after_moved n k true p₀ p q
  after_opened n k false true p q e s = after_moved n k false p₀ p q
  after_opened zero k true false p q e s = true_false (s.still refl)
  after_opened (suc n) k true false p q e s = ap (λ (z : Point). rested (follow z p₀)) (sym (e refl))
  after_opened zero k false false p q e s = refl
  after_opened (suc n) k false false p q e s = refl

-- The state that a run from the pen p₀ has come to at the place i
abbrev pub Reaches : List ℕ → ℕ → Carried → Pen → ℕ → Bool → Point → Command → Look → List ℕ → ℕ → List ℕ → Type 0
Reaches bytes from x p₀ i w p c l m at out = Run Pdi bytes from x (i - from) (standing (pen_after (i - from) w p₀ p) c l m at out)

pub reaches_none : (bytes : List ℕ) (from : ℕ) (p₀ : Pen) (c : Command) (l : Look) (m : List ℕ) (at : ℕ) (out : List ℕ)
    → Reaches bytes from (standing p₀ c l m at out) p₀ from false p₀.point c l m at out
reaches_none bytes from p₀ c l m at out =
    let e : 0 ≡ from - from = omega arith in
    subst (λ (n : ℕ). Run Pdi bytes from (standing p₀ c l m at out) n (standing (pen_after n false p₀ p₀.point) c l m at out)) e none

-- A step more from there leaves the pen y
reaches_step : (bytes : List ℕ) (from : ℕ) (x : Carried) (p₀ : Pen) (i : ℕ) (w v : Bool) (p q : Point) (c : Command) (l : Look) (m : List ℕ) (at : ℕ) (out : List ℕ)
    (a : Action) (c' : Command) (at' : ℕ) (out' : List ℕ)
    → from ≤ i → (v ≡ false → q ≡ p) → Stands p₀ (i - from) w p → at + room_for_step ≤ length out → ActsAs Pdi (get_or bytes i 0) a
    → standing (rested (moved_if v q (pen_after (i - from) w p₀ p))) c' l m at' out' ≡ carry (act a (drawing_of (pen_after (i - from) w p₀ p) c l m)) (drawing_of (pen_after (i - from) w p₀ p) c l m) at out
    → Reaches bytes from x p₀ i w p c l m at out
    → Reaches bytes from x p₀ (i + 1) (w || v) q c' l m at' out'
reaches_step bytes from x p₀ i w v p q c l m at out a c' at' out' h e s room acts t run =
    let n = i - from in
    let here : i ≡ from + n = omega arith in
    let last : suc n ≡ i + 1 - from = omega arith in
    let stepped =
    run_step a (standing (rested (moved_if v q (pen_after n w p₀ p))) c' l m at' out') run (subst (λ (j : ℕ). ActsAs Pdi (get_or bytes j 0) a) here acts) room refl t in
    let next = subst (λ (y : Pen). Run Pdi bytes from x (n + 1) (standing y c' l m at' out')) (after_opened p₀ n n w v p q e s) stepped in
    subst (λ (j : ℕ). Run Pdi bytes from x j (standing (pen_after j (w || v) p₀ q) c' l m at' out')) last
    (subst (λ (j : ℕ). Run Pdi bytes from x j (standing (pen_after (suc n) (w || v) p₀ q) c' l m at' out')) (add-one n) next)

-- A byte opens or closes
pub reaches_opened : (bytes : List ℕ) (from : ℕ) (x : Carried) (p₀ : Pen) (i : ℕ) (w v : Bool) (p q : Point) (c : Command) (l : Look) (m : List ℕ) (at : ℕ) (out : List ℕ)
    (a : Action) (c' : Command) (at' : ℕ) (out' : List ℕ)
    → from ≤ i → p₀.operand.count ≡ 0 → (v ≡ false → q ≡ p) → Stands p₀ (i - from) w p → at + room_for_step ≤ length out → ActsAs Pdi (get_or bytes i 0) a
    → ((t : Text) (o : Operand) → o.count ≡ 0 → standing (rested (moved_if v q (pen_at p t o))) c' l m at' out' ≡ carry (act a (drawing_of (pen_at p t o) c l m)) (drawing_of (pen_at p t o) c l m) at out)
    → (u : Bool) → u ≡ (w || v)
    → Reaches bytes from x p₀ i w p c l m at out
    → Reaches bytes from x p₀ (i + 1) u q c' l m at' out'
reaches_opened bytes from x p₀ i w v p q c l m at out a c' at' out' h z e s room acts t u f run =
    let n = i - from in
    let y = pen_after n w p₀ p in
    let opened =
    subst (λ (y : Pen). standing (rested (moved_if v q y)) c' l m at' out' ≡ carry (act a (drawing_of y c l m)) (drawing_of y c l m) at out) (sym (after_at p₀ n w p s))
    (t y.text y.operand (after_fresh p₀ n w p z)) in
    subst (λ (b : Bool). Reaches bytes from x p₀ (i + 1) b q c' l m at' out') (sym f)
    (reaches_step bytes from x p₀ i w v p q c l m at out a c' at' out' h e s room acts opened run)

-- Data is dropped, and nothing changes
data_nothing : (b : ℕ) (d : Drawing) (at : ℕ) (out : List ℕ) (r : Row) → r ≡ row_of d.command.opcode → role_of r.pattern d.command.due ≡ Dropped
    → record { refused = false; drawing = d; at = at; output = out } ≡ carry (act (Data b) d) d at out
data_nothing b d at out r own role =
    sym (carry_none d d at out)
    ∙ ap (λ (o : Outcome). carry o d at out) (sym (dropped_same b d (subst (λ (x : Row). role_of x.pattern d.command.due ≡ Dropped) own role)))

pub reaches_dropped : (bytes : List ℕ) (from : ℕ) (x : Carried) (p₀ : Pen) (i : ℕ) (w : Bool) (p : Point) (c : Command) (l : Look) (m : List ℕ) (at : ℕ) (out : List ℕ) (r : Row)
    → 1 ≤ i - from → at + room_for_step ≤ length out → 64 ≤ get_or bytes i 0 → get_or bytes i 0 ≤ 127 → r ≡ row_of c.opcode → role_of r.pattern c.due ≡ Dropped
    → Reaches bytes from x p₀ i w p c l m at out
    → Reaches bytes from x p₀ (i + 1) w p c l m at out
reaches_dropped bytes from x p₀ i w p c l m at out r some room least most own role run =
    let b = get_or bytes i 0 in
    let n = i - from in
    let k = i - from - 1 in
    let here : i ≡ from + n = omega arith in
    let begun : n ≡ suc k = omega arith in
    let last : n + 1 ≡ i + 1 - from = omega arith in
    let d = drawing_of (pen_after n w p₀ p) c l m in
    let stepped = run_step (Data b) (standing (pen_after n w p₀ p) c l m at out) run (subst (λ (j : ℕ). ActsAs Pdi (get_or bytes j 0) (Data b)) here (data_acts b least most)) room refl (data_nothing b d at out r own role) in
    let same : pen_after n w p₀ p ≡ pen_after (n + 1) w p₀ p = ap (λ (j : ℕ). pen_after j w p₀ p) begun ∙ ap (λ (j : ℕ). pen_after j w p₀ p) (sym (add-one n)) in
    subst (λ (j : ℕ). Run Pdi bytes from x j (standing (pen_after j w p₀ p) c l m at out)) last
    (subst (λ (y : Pen). Run Pdi bytes from x (n + 1) (standing y c l m at out)) same stepped)

-- What the answer tells
pub reaches_end : (bytes : List ℕ) (from to : ℕ) (p₀ : Point) (c₀ : Command) (at₀ : ℕ) (out₀ : List ℕ) (i : ℕ) (w : Bool) (p : Point) (c : Command) (l : Look) (at : ℕ) (out : List ℕ) (r : Ran Moved)
    → from ≤ i → i ≤ to → r ≡ record { count = i - from; at = at; left = record { moved = w; point = p }; command = c }
    → ((o : Operand) → o.count ≡ 0 → length o.bytes ≡ 8 → (t : Text) (m : List ℕ) → Reaches bytes from (standing (pen_at p₀ t o) c₀ l m at₀ out₀) (pen_at p₀ t o) i w p c l m at out)
    → ((o : Operand) → o.count ≡ 0 → length o.bytes ≡ 8 → PassesTo bytes from p₀ o c₀ l at₀ out₀ r out) × (from + r.count ≤ to)
reaches_end bytes from to p₀ c₀ at₀ out₀ i w p c l at out r h k e runs = (
  (λ o z eight. subst (λ (x : Ran Moved). PassesTo bytes from p₀ o c₀ l at₀ out₀ x out) (sym e) (runs o z eight)),
  subst (λ (x : Ran Moved). from + x.count ≤ to) (sym e) (omega arith),
)

-- The same of a run from the place 0 on
pub reaches_all : (bytes : List ℕ) (p₀ : Point) (c₀ : Command) (at₀ : ℕ) (out₀ : List ℕ) (i : ℕ) (w : Bool) (p : Point) (c : Command) (l : Look) (at : ℕ) (out : List ℕ) (r : Ran Moved)
    → i ≤ length bytes → r ≡ record { count = i; at = at; left = record { moved = w; point = p }; command = c }
    → ((o : Operand) → o.count ≡ 0 → length o.bytes ≡ 8 → (t : Text) (m : List ℕ) → Reaches bytes 0 (standing (pen_at p₀ t o) c₀ l m at₀ out₀) (pen_at p₀ t o) i w p c l m at out)
    → ((o : Operand) → o.count ≡ 0 → length o.bytes ≡ 8 → PassesTo bytes 0 p₀ o c₀ l at₀ out₀ r out) × (r.count ≤ length bytes)
reaches_all bytes p₀ c₀ at₀ out₀ i w p c l at out r h e runs =
    let n : i ≡ i - 0 = omega arith in
    let whole = reaches_end bytes 0 (length bytes) p₀ c₀ at₀ out₀ i w p c l at out r (omega arith) h (subst (λ (k : ℕ). r ≡ record { count = k; at = at; left = record { moved = w; point = p }; command = c }) n e) runs in
    (whole.0, omega (arith, whole.1))

-- The row of a byte in the table
pub row_next : {table : List Row} → table ≡ rows → (k b : ℕ) (d : Row) → k ≡ b - 32 → b < 64 → get_or table k d ≡ row_of b
unfolding rows
row_next test k b d e h =
    let l : k < 32 = omega arith in
    at rows test k d other l ∙ ap (λ (j : ℕ). get_or rows j other) e ∙ row_at b

-- A recorded control asks for its record, an opcode to be opened
pub control_asked : (b : ℕ) → b < 32 → get_or controls b Ignored ≡ Recorded → ActsAs Pdi b (asked b)
control_asked b h e = subst (ActsAs Pdi b) (sym (pick_yes (Control b) (Opcode b) (lt-ltb b 32 h))) (control_acts Pdi b h e)

pub opcode_asked : (b : ℕ) → 32 ≤ b → b < 64 → ActsAs Pdi b (asked b)
opcode_asked b h k = subst (ActsAs Pdi b) (sym (pick_no (Control b) (Opcode b) (le-ltb b 32 h))) (opcode_acts b h (omega arith))

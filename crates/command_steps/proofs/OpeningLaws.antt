-- Commands closed and opened in a run, with no operand begun.
use Rattle.std.specs.Prelude.{◌+◌, ◌≤◌, ◌<◌, ◌≡◌}
use Rattle.command_steps.specs.Prelude.{ℕ, refl, sym, ap, ◌∙◌, subst, Bool, true, false, List, length, lt-ltb, le-ltb, suc, add-one, get_or}
use Rattle.rules.specs.declared.Command.{Command}
use Rattle.rules.specs.declared.Drawing.{Drawing}
use Rattle.rules.specs.declared.Look.{Look}
use Rattle.rules.specs.declared.Operand.{Operand}
use Rattle.rules.specs.declared.Pen.{Pen}
use Rattle.rules.specs.declared.Point.{Point}
use Rattle.rules.specs.declared.Role.{Role}
use Rattle.rules.specs.declared.Row.{Row}
use Rattle.rules.specs.declared.Text.{Text}
use Rattle.rules.specs.Numbers.{record_size, origin, room_for_step}
use Rattle.rules.specs.Record.{bytes_of, mark}
use Rattle.rules.specs.Drawing.{row_of, role_of, no_operand, finish, new_command, close, open_command, act, Outcome, NotDrawn, Draw}
use Rattle.records.specs.Bytes.{overwrite}
use Rattle.figures.specs.Carried.{carry, drawing_of, Carried}
use Rattle.figures.specs.Tracing.{pen_at, moved_if}
use Rattle.figures.proofs.Carrying.{carry_none, puts_one, puts_carried, then_drawn}
use Rattle.commands.proofs.ClosingLaws.{none_begun, close_drawn}
use Rattle.drawing_runs.specs.Run.{standing, ActsAs, Run, more}
use Rattle.drawing_runs.specs.Strokes.{rested}
use Rattle.command_steps.specs.Asked.{asked}
use Rattle.rules.specs.declared.Action.{Action}
use Rattle.rules.specs.declared.Set.{Set}
use Rattle.rules.proofs.Bools.{false_true}

-- A step more, its answer given
pub run_step : {s : Set} {bytes : List ℕ} {from n : ℕ} {x y : Carried} (a : Action) (z : Carried) → Run s bytes from x n y
    → ActsAs s (get_or bytes (from + n) 0) a → y.at + room_for_step ≤ length y.output → z.refused ≡ false
    → z ≡ carry (act a y.drawing) y.drawing y.at y.output → Run s bytes from x (n + 1) z
unfolding carry
run_step {s} {bytes} {from} {n} {x} {y} a z r acts room f e = by (act a y.drawing) refl
  where
    by : (o : Outcome) → act a y.drawing ≡ o → Run s bytes from x (n + 1) z
    by (NotDrawn q) h = false_true (sym f ∙ ap (λ (c : Carried). c.refused) (e ∙ ap (λ (p : Outcome). carry p y.drawing y.at y.output) h))
    by (Draw d rs) h =
        subst (λ (j : ℕ). Run s bytes from x j z) (sym (add-one n))
        (subst (Run s bytes from x (suc n)) (sym (e ∙ ap (λ (p : Outcome). carry p y.drawing y.at y.output) h)) (more r acts room h))

-- With no command open, the row after a control is that of opcode 0
pub row_control : (b : ℕ) → b < 32 → row_of b ≡ row_of 0
unfolding row_of
row_control b h = rw (lt-ltb b 32 h)

-- A command that finished, its point moved to q or not, is closed
module _ (p q : Point) (w : Bool) (t : Text) (o : Operand) (c : Command) (l : Look) (m : List ℕ) (at at' : ℕ) (out out' : List ℕ) where
  abbrev d : Drawing
  d = drawing_of (pen_at p t o) c l m

  abbrev after : Pen
  after = moved_if w q (pen_at p t o)

  abbrev shut : Drawing
  shut = drawing_of (rested after) (new_command 0 origin) l m

  pub closed : (row : Row) (n : Role) → row ≡ row_of c.opcode → n ≡ role_of row.pattern c.due → o.count ≡ 0 → at + record_size ≤ length out
      → standing after c l m at' out' ≡ carry (finish n row.filled d) d at out
      → standing (rested after) (new_command 0 origin) l m at' out' ≡ carry (close d) d at out
  closed row n e f z h g =
      let i = sym (carry_none d d at out) ∙ none_begun row d at out z in
      sym (carry_none shut (drawing_of after c l m) at' out')
      ∙ close_drawn row d at out (standing (pen_at p t o) c l m at out) e i n (standing after c l m at' out') h refl f g

  module _ (b : ℕ) (e : standing (rested after) (new_command 0 origin) l m at' out' ≡ carry (close d) d at out) (h : at ≤ length out) (s : w ≡ false → q ≡ p) where
    here : (v : Bool) → (v ≡ false → q ≡ p) → (moved_if v q (pen_at p t o)).point ≡ q
    here true e = refl
    here false e = sym (e refl)

    -- A control has its record
    pub next_control : (c' : Command) (out'' : List ℕ) → b < 32 → c' ≡ new_command 0 origin → out'' ≡ overwrite at' (bytes_of (mark l 7 0 b q)) out'
        → standing (rested after) c' l m (at' + 40) out'' ≡ carry (act (asked b) d) d at out
    unfolding act
    next_control c' out'' k f x =
        let x' = x ∙ ap (λ (z : Point). overwrite at' (bytes_of (mark l 7 0 b z)) out') (sym (here w s)) in
        rw (lt-ltb b 32 k, f)
        (then_drawn (close d) _ d at out (standing (rested after) (new_command 0 origin) l m at' out') _ e refl h tt (puts_carried shut shut at' (at' + 40) out' out'' refl (puts_one (mark l 7 0 b after.point) at' out' out'' x')))

    -- An opcode opens a command
    pub next_opened : (c' : Command) (at'' : ℕ) (out'' : List ℕ) → 32 ≤ b
        → standing (pen_at q after.text no_operand) c' l m at'' out'' ≡ carry (open_command b (drawing_of (pen_at q after.text no_operand) (new_command 0 origin) l m)) (drawing_of (pen_at q after.text no_operand) (new_command 0 origin) l m) at' out'
        → standing (rested after) c' l m at'' out'' ≡ carry (act (asked b) d) d at out
    unfolding act open_command
    next_opened c' at'' out'' k f =
        let f' = subst (λ (z : Point). standing (pen_at z after.text no_operand) c' l m at'' out'' ≡ carry (open_command b (drawing_of (pen_at z after.text no_operand) (new_command 0 origin) l m)) (drawing_of (pen_at z after.text no_operand) (new_command 0 origin) l m) at' out') (sym (here w s)) f in
        rw (le-ltb b 32 k) (then_drawn (close d) (open_command b) d at out (standing (rested after) (new_command 0 origin) l m at' out') _ e refl h tt f')

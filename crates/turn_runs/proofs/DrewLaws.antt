-- The tip after a run, put together with a text
use Rattle.std.specs.Prelude.{◌+◌, ◌-◌, ◌≤◌, ◌≡◌, slice_range}
use Rattle.turn_runs.specs.Prelude.{ℕ, zero, suc, add-one, arith, Bool, true, false, List, length, drop, get_or, length-take, length-drop, refl, sym, ap, ◌∙◌, subst}
use Rattle.rules.specs.declared.Command.{Command}
use Rattle.rules.specs.declared.Look.{Look}
use Rattle.rules.specs.declared.Operand.{Operand}
use Rattle.rules.specs.declared.Pen.{Pen}
use Rattle.rules.specs.declared.Point.{Point}
use Rattle.rules.specs.declared.Set.{Set}
use Rattle.rules.specs.declared.Set.TheVariants.{Pdi}
use Rattle.rules.specs.declared.Text.{Text}
use Rattle.rules.specs.Numbers.{can, room_for_step}
use Rattle.rules.specs.Drawing.{no_operand, Draw, act}
use Rattle.rules.proofs.RecordCount.{AtMost, act_most}
use Rattle.pens.specs.Tips.{caught_up, pen_of, tip_of}
use Rattle.pens.specs.declared.tips.Tip.{Tip}
use Rattle.pens.proofs.TipLaws.{caught_follows}
use Rattle.figures.specs.Carried.{Carried}
use Rattle.figures.proofs.Carrying.{carry_most, carry_length}
use Rattle.drawing_runs.specs.Run.{standing, Run, none, more, RunsTo}
use Rattle.drawing_runs.specs.Strokes.{pen_after, PassesTo}
use Rattle.drawing_runs.specs.declared.Moved.{Moved}
use Rattle.drawing_runs.specs.declared.Ran.{Ran}
use Rattle.drawing_runs.specs.Drew.{DrawsTo}
use Rattle.drawing_runs.proofs.RunLaws.{run_then, run_dropped}
use Rattle.command_steps.specs.declared.opening.Next.{Next}
use Rattle.command_steps.specs.Asked.{GoesOn}
use Rattle.turn_runs.specs.Drew.{tip_after}
use Rattle.turn_runs.specs.Cancelling.{CancelsTo, cancelled}

after_tip : (t : Text) (n : ℕ) (w : Bool) (x : Tip) (q : Point) → pen_after n w (pen_of t x) q ≡ pen_of t (tip_after n w q x)
after_tip t zero w x q = refl
after_tip t (suc n) true x q = λ i. record { point = q; text = caught_follows x.behind t x.point q i; operand = no_operand }
after_tip t (suc n) false x q = refl

-- What is told of so many bytes
pub tip_moved : (n : ℕ) (w : Bool) (q : Point) (x : Tip) → (n ≡ 0 → ⊥) → w ≡ true → record { behind = true; point = q; operand = no_operand } ≡ tip_after n w q x
tip_moved zero w q x h e = absurd (h refl)
tip_moved (suc n) w q x h e = rw e

pub tip_still : (n : ℕ) (w : Bool) (q : Point) (x : Tip) → (n ≡ 0 → ⊥) → w ≡ false → record { behind = x.behind; point = x.point; operand = no_operand } ≡ tip_after n w q x
tip_still zero w q x h e = absurd (h refl)
tip_still (suc n) w q x h e = rw e

-- Points passed leave the text as it is
pub passes_draws : (bytes : List ℕ) (from : ℕ) (x y : Tip) (c : Command) (l : Look) (at : ℕ) (out : List ℕ) (r : Ran Moved) (left : List ℕ)
    → PassesTo bytes from x.point x.operand c l at out r left
    → y ≡ tip_after r.count r.left.moved r.left.point x
    → (t : Text) → DrawsTo Pdi bytes from t x c l at out (record { count = r.count; at = r.at; left = y; command = r.command }) t left
passes_draws bytes from x y c l at out r left passes e t m =
    rw (e, ← after_tip t r.count r.left.moved x r.left.point) (passes (caught_up x.behind x.point t) m)

-- Characters leave the pen that they are told to, once the cursor is not behind
pub types_draws : (s : Set) (bytes : List ℕ) (from : ℕ) (t u v : Text) (x y : Tip) (c : Command) (l : Look) (at : ℕ) (out : List ℕ) (r : Ran Pen) (left : List ℕ)
    → u ≡ caught_up x.behind x.point t → v ≡ r.left.text → y ≡ tip_of r.left
    → RunsTo s bytes from (record { point = x.point; text = u; operand = x.operand }) c l at out r left
    → DrawsTo s bytes from t x c l at out (record { count = r.count; at = r.at; left = y; command = r.command }) v left
types_draws s bytes from t u v x y c l at out r left e g h runs m = rw (h, g, ← e) (runs m)

-- A CAN is marked as a recorded control is
pub marks_cancel : (bytes : List ℕ) (t : Text) (l : Look) (x : Ran Tip) (out : List ℕ) (n : Next) (left : List ℕ) (y : Tip)
    → get_or bytes x.count 0 ≡ can → x.at + room_for_step ≤ length out → x.left.operand.count ≡ 0
    → ((s : Text) (o : Operand) (m : List ℕ) → o.count ≡ 0 → GoesOn can x.left.point s o x.command l m x.at out n left)
    → y ≡ tip_after 1 n.moved n.point x.left
    → CancelsTo bytes t l x out (record { count = x.count + 1; at = n.at; left = y; command = n.command }) left
unfolding act
marks_cancel bytes t l x out n left y is room fresh goes e =
    cancelled (add-one x.count) is room
    (λ m. ap (λ (p : Pen). standing p n.command l m n.at left) (ap (pen_of t) e ∙ sym (after_tip t 1 n.moved x.left n.point))
    ∙ goes (caught_up x.left.behind x.left.point t) x.left.operand m fresh)

-- No operand is begun after them
pub tip_fresh : (n : ℕ) (w : Bool) (q : Point) (x : Tip) → x.operand.count ≡ 0 → (tip_after n w q x).operand.count ≡ 0
tip_fresh zero w q x e = e
tip_fresh (suc n) true q x e = refl
tip_fresh (suc n) false q x e = refl

-- A run after a run
pub draws_then : (s : Set) (bytes : List ℕ) (from n : ℕ) (t u v : Text) (x y : Tip) (c d : Command) (l : Look) (at at₁ : ℕ) (out out₁ out₂ : List ℕ) (r : Ran Tip)
    → DrawsTo s bytes from t x c l at out (record { count = n; at = at₁; left = y; command = d }) u out₁
    → DrawsTo s bytes (from + n) u y d l at₁ out₁ r v out₂
    → DrawsTo s bytes from t x c l at out (record { count = n + r.count; at = r.at; left = r.left; command = r.command }) v out₂
draws_then s bytes from n t u v x y c d l at at₁ out out₁ out₂ r a b m = run_then (a m) (b m)

-- The same over the bytes that are left
pub draws_rest : (s : Set) (bytes : List ℕ) (n : ℕ) (t u v : Text) (x y : Tip) (c d : Command) (l : Look) (at at₁ : ℕ) (out out₁ out₂ : List ℕ) (r : Ran Tip)
    → DrawsTo s bytes 0 t x c l at out (record { count = n; at = at₁; left = y; command = d }) u out₁
    → DrawsTo s (slice_range bytes n (length bytes)) 0 u y d l at₁ out₁ r v out₂
    → DrawsTo s bytes 0 t x c l at out (record { count = n + r.count; at = r.at; left = r.left; command = r.command }) v out₂
draws_rest s bytes n t u v x y c d l at at₁ out out₁ out₂ r a b =
    let here : n ≡ 0 + n = omega arith in
    let rest : DrawsTo s bytes n u y d l at₁ out₁ r v out₂ = λ m. run_dropped bytes n (b m) in
    draws_then s bytes 0 n t u v x y c d l at at₁ out out₁ out₂ r a (subst (λ (k : ℕ). DrawsTo s bytes k u y d l at₁ out₁ r v out₂) here rest)

-- and is no longer than the bytes
pub rest_most : (bytes : List ℕ) (n m : ℕ) → n ≤ length bytes → m ≤ length (slice_range bytes n (length bytes)) → n + m ≤ length bytes
rest_most bytes n m h l =
    let e = length-take (length bytes - n) (drop n bytes) in
    let f = length-drop n bytes in
    omega arith

-- The records of a run lie within its output
pub run_within : {s : Set} {bytes : List ℕ} {from n : ℕ} {x y : Carried} → Run s bytes from x n y → x.at ≤ length x.output → y.at ≤ length y.output
run_within none h = h
run_within (more {n} {y} {a} {e} {rs} r acts room drew) h =
    let few = subst (AtMost 3) drew (act_most a y.drawing) in
    omega (arith, room, carry_most 3 (Draw e rs) y.drawing y.at y.output few, carry_length 3 (Draw e rs) y.drawing y.at y.output few (omega (arith, room)))

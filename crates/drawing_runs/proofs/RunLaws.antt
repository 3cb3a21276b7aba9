-- Runs over operands that come whole.
use Rattle.std.specs.Prelude.{◌+◌, ◌-◌, ◌≤◌, ◌<◌, ◌≡◌, ◌∷◌, ◌++◌, slice_range}
use Rattle.drawing_runs.specs.Prelude.{ℕ, zero, suc, add_assoc, add-suc, add-zero, arith, refl, sym, ap, ◌∙◌, subst, Bool, true, false, List, [], append-nil, length, get_or, set, take, drop, take_all, length-set, length-drop, take-suc, take-suc-set, get_or-drop, get_or-take, length-take-le, lt-ltb, le-ltb, ne_eqb}
use Rattle.rules.specs.declared.Action.TheVariants.{Data}
use Rattle.rules.specs.declared.Drawing.{Drawing}
use Rattle.rules.specs.declared.Operand.{Operand}
use Rattle.rules.specs.declared.Point.{Point}
use Rattle.rules.specs.declared.Record.{Record}
use Rattle.rules.specs.declared.Row.{Row}
use Rattle.rules.specs.declared.Set.{Set}
use Rattle.rules.specs.declared.Set.TheVariants.{Pdi}
use Rattle.rules.specs.Numbers.{room_for_step}
use Rattle.rules.specs.Choice.{pick}
use Rattle.rules.specs.Operands.{point, all_data, begun}
use Rattle.rules.specs.Drawing.{row_of, length_of, with_operand, Outcome, Draw, and_then, apply, next_operand, role_due, apply_begun, take_byte, data_byte, act}
use Rattle.rules.proofs.Bools.{pick_yes, pick_no}
use Rattle.std.proofs.Common.{Option, Some, None}
use Rattle.std.proofs.lemmas.Option.{none-some}
use Rattle.operands.specs.Data.{whole_of}
use Rattle.rules.proofs.Reacting.{data_range}
use Rattle.operands.proofs.WholeLaws.{all_at}
use Rattle.figures.specs.Carried.{Carried, carry}
use Rattle.figures.proofs.Carrying.{carry_none}
use Rattle.drawing_runs.specs.Run.{ActsAs, Run, none, more}
use Rattle.drawing_runs.proofs.ActsLaws.{data_acts}

-- A state that is not refused
abbrev pub drawn : Drawing → ℕ → List ℕ → Carried
drawn d at out = record { refused = false; drawing = d; at = at; output = out }

-- The bytes from a place on, joined to an operand that is not begun
module _ (bytes : List ℕ) (place : ℕ) where
  abbrev joined : List ℕ → ℕ → List ℕ
  joined old zero = old
  joined old (suc k) = set (joined old k) k (get_or bytes (place + k) 0)

  joined_length : (old : List ℕ) (k : ℕ) → length (joined old k) ≡ length old
  joined_length old zero = refl
  joined_length old (suc k) = length-set (joined old k) k (get_or bytes (place + k) 0) ∙ joined_length old k

  joined_bytes : (old : List ℕ) (k : ℕ) → k ≤ length old → place + k ≤ length bytes → take k (joined old k) ≡ take k (drop place bytes)
  joined_bytes old zero h f = refl
  joined_bytes old (suc k) h f =
      let l = drop place bytes in
      let b = get_or bytes (place + k) 0 in
      take-suc-set (joined old k) k b (omega (arith, joined_length old k))
      ∙ ap (λ (xs : List ℕ). xs ++ (b ∷ [])) (joined_bytes old k (omega arith) (omega arith))
      ∙ ap (λ (c : ℕ). take k l ++ (c ∷ [])) (sym (get_or-drop place bytes k 0))
      ∙ sym (take-suc l k 0 (omega (arith, length-drop place bytes)))

-- What is told of bytes that are all data
pub each_data : (bytes : List ℕ) (place l : ℕ) → place + l ≤ length bytes → all_data (take l (drop place bytes)) ≡ true
    → (k : ℕ) → k < l → (64 ≤ get_or bytes (place + k) 0) × (get_or bytes (place + k) 0 ≤ 127)
each_data bytes place l h all k g =
    let bs = take l (drop place bytes) in
    let long : length bs ≡ l = length-take-le l (drop place bytes) (omega (arith, length-drop place bytes)) in
    let here : get_or bs k 0 ≡ get_or bytes (place + k) 0 = get_or-take l (drop place bytes) k 0 g ∙ get_or-drop place bytes k 0 in
    rw here at (data_range (get_or bs k 0) (all_at bs k (omega arith) all))

-- An operand of the bytes after a run's first n
module _ (bytes : List ℕ) (from n : ℕ) (x : Carried) (d : Drawing) (at : ℕ) (out : List ℕ) (room : at + room_for_step ≤ length out) where
  -- The first k of them have joined
  abbrev stage : ℕ → Drawing
  stage k = with_operand (record { bytes = joined bytes (from + n) d.pen.operand.bytes k; count = k }) d

  abbrev due : Row
  due = row_of d.command.opcode

  module _ (l : ℕ) (long : length_of (role_due due d) d.look.domain ≡ l)
      (each : (k : ℕ) → k < l → (64 ≤ get_or bytes (from + n + k) 0) × (get_or bytes (from + n + k) 0 ≤ 127)) where
    -- The next byte does as the rule says
    step : (k : ℕ) → k < l → {e : Drawing} {rs : List Record} → Run Pdi bytes from x (n + k) (drawn (stage k) at out)
        → take_byte l due (get_or bytes (from + n + k) 0) (stage k) ≡ Draw e rs
        → Run Pdi bytes from x (n + suc k) (carry (Draw e rs) (stage k) at out)
    unfolding act data_byte
    step k h {e} {rs} run f =
        let b = get_or bytes (from + n + k) 0 in
        let a : from + n + k ≡ from + (n + k) = add_assoc from n k in
        let acts = subst (λ (p : ℕ). ActsAs Pdi (get_or bytes p 0) (Data b)) a (data_acts b (each k h).0 (each k h).1) in
        subst (λ (m : ℕ). Run Pdi bytes from x m (carry (Draw e rs) (stage k) at out)) (sym (add-suc n k))
        (more run acts room (ap (λ (m : ℕ). take_byte m due b (stage k)) long ∙ f))

    -- It joins where it is not the last
    joins : (k : ℕ) → suc k < l → Run Pdi bytes from x (n + k) (drawn (stage k) at out) → Run Pdi bytes from x (n + suc k) (drawn (stage (suc k)) at out)
    unfolding take_byte
    joins k h run =
        let e = pick_no _ _ (ne_eqb l 0 (λ z. absurd (omega arith))) ∙ pick_yes _ _ (lt-ltb (suc k) l h) in
        subst (λ (c : Carried). Run Pdi bytes from x (n + suc k) c) (carry_none (stage (suc k)) (stage k) at out) (step k (omega arith) run e)

    join : d.pen.operand.count ≡ 0 → Run Pdi bytes from x n (drawn d at out) → (k : ℕ) → k < l → Run Pdi bytes from x (n + k) (drawn (stage k) at out)
    join z run zero h =
        let s : d ≡ stage 0 = λ i. with_operand (record { bytes = d.pen.operand.bytes; count = z i }) d in
        subst (λ (m : ℕ). Run Pdi bytes from x m (drawn (stage 0) at out)) (sym (add-zero n)) (subst (λ (c : Drawing). Run Pdi bytes from x n (drawn c at out)) s run)
    join z run (suc k) h = joins k h (join z run k (omega arith))

  -- The operand is applied: what it draws depends on its bytes, and it is carried along
  pub whole_operand : (l : ℕ) → length_of (role_due due d) d.look.domain ≡ l → 1 ≤ l
      → ((k : ℕ) → k < l → (64 ≤ get_or bytes (from + n + k) 0) × (get_or bytes (from + n + k) 0 ≤ 127))
      → from + n + l ≤ length bytes → l ≤ length d.pen.operand.bytes → d.pen.operand.count ≡ 0
      → (e : Drawing) (rs : List Record)
      → ((o : Operand) → apply (role_due due d) due (take l (drop (from + n) bytes)) (with_operand o d) ≡ Draw (with_operand o e) rs)
      → Run Pdi bytes from x n (drawn d at out)
      → Run Pdi bytes from x (n + l) (carry (Draw (next_operand due.pattern e) rs) d at out)
  unfolding take_byte apply_begun and_then begun carry
  whole_operand zero long some each h w z e rs a run = absurd (omega arith)
  whole_operand (suc k) long some each h w z e rs a run =
      let o : Operand = record { bytes = joined bytes (from + n) d.pen.operand.bytes (suc k); count = suc k } in
      let next : Drawing → Outcome = λ f. Draw (next_operand due.pattern f) [] in
      let applied =
      ap (λ (bs : List ℕ). apply (role_due due d) due bs (with_operand o d)) (joined_bytes bytes (from + n) d.pen.operand.bytes (suc k) w h)
      ∙ a o in
      let p =
      pick_no _ _ (ne_eqb (suc k) 0 (λ z. absurd (omega arith)))
      ∙ pick_no _ _ (le-ltb (suc k) (suc k) (omega arith))
      ∙ ap (λ (y : Outcome). and_then y next) applied
      ∙ ap (Draw (next_operand due.pattern e)) (append-nil rs) in
      step (suc k) long each k (omega arith) (join (suc k) long each z run k (omega arith)) p

-- A run after a run
pub run_then : {s : Set} {bytes : List ℕ} {from j : ℕ} {x y : Carried} {k : ℕ} {z : Carried} → Run s bytes from x j y → Run s bytes (from + j) y k z → Run s bytes from x (j + k) z
run_then {s} {bytes} {from} {j} {x} {y} {k} r none = subst (λ (i : ℕ). Run s bytes from x i y) (sym (add-zero j)) r
run_then {s} {bytes} {from} {j} {x} {y} {k} r (more {n} {y = w} {a} {e} {rs} q acts room drew) =
    subst (λ (i : ℕ). Run s bytes from x i (carry (Draw e rs) w.drawing w.at w.output)) (sym (add-suc j n))
    (more (run_then r q) (subst (λ (i : ℕ). ActsAs s (get_or bytes i 0) a) (add_assoc from j n) acts) room drew)

-- A run over bytes that stand at another place too is a run there
run_over : {s : Set} (part bytes : List ℕ) (j from : ℕ) {x : Carried} {k : ℕ} {y : Carried} → ((i : ℕ) → i < k → get_or part (j + i) 0 ≡ get_or bytes (from + i) 0)
    → Run s part j x k y → Run s bytes from x k y
run_over part bytes j from same none = none
run_over {s} part bytes j from same (more {n} {a = a} r acts room drew) =
    more (run_over part bytes j from (λ i h. same i (omega (arith, h))) r) (subst (λ (b : ℕ). ActsAs s b a) (same n (omega arith)) acts) room drew

-- The bytes from a place on
pub rest_all : (bytes : List ℕ) (from : ℕ) → slice_range bytes from (length bytes) ≡ drop from bytes
rest_all bytes from = take_all (length bytes - from) (drop from bytes) (omega (arith, length-drop from bytes))

pub rest_length : (bytes : List ℕ) (from : ℕ) → length (slice_range bytes from (length bytes)) ≡ length bytes - from
rest_length bytes from = ap length (rest_all bytes from) ∙ length-drop from bytes

-- A run over the bytes from a place on, over so many, or over those between two places, is a run at the place
pub run_dropped : {s : Set} (bytes : List ℕ) (from : ℕ) {x : Carried} {k : ℕ} {y : Carried} → Run s (slice_range bytes from (length bytes)) 0 x k y → Run s bytes from x k y
run_dropped bytes from run =
    run_over (slice_range bytes from (length bytes)) bytes 0 from
    (λ i h. ap (λ (l : List ℕ). get_or l (0 + i) 0) (rest_all bytes from) ∙ get_or-drop from bytes (0 + i) 0 ∙ ap (λ (n : ℕ). get_or bytes n 0) (omega arith))
    run

pub run_taken : {s : Set} (bytes : List ℕ) (most : ℕ) {x : Carried} {k : ℕ} {y : Carried} → k ≤ most → Run s (take most bytes) 0 x k y → Run s bytes 0 x k y
run_taken bytes most few run = run_over (take most bytes) bytes 0 0 (λ i h. get_or-take most bytes (0 + i) 0 (omega (arith, h, few))) run

pub run_between : {s : Set} (bytes : List ℕ) (from to : ℕ) {x : Carried} {k : ℕ} {y : Carried} → k ≤ to - from → Run s (slice_range bytes from to) 0 x k y → Run s bytes from x k y
run_between bytes from to few run =
    run_over (slice_range bytes from to) bytes 0 from
    (λ i h. get_or-take (to - from) (drop from bytes) (0 + i) 0 (omega (arith, h, few)) ∙ get_or-drop from bytes (0 + i) 0 ∙ ap (λ (n : ℕ). get_or bytes n 0) (omega arith))
    run

-- An operand that is cut has no point
pub cut_whole {ℓ} : {A : Type ℓ} {v : Point} → None ≡ Some v → A
cut_whole {v} e = absurd (none-some v e)

-- A point was read: its bytes are data
pub whole_tells : (three : Bool) (bs : List ℕ) (v : Point) → whole_of three bs ≡ Some v → (all_data bs ≡ true) × (v ≡ point three bs)
unfolding whole_of
whole_tells three bs v e = by (all_data bs) refl e
  where
    point_of : Option Point → Point
    point_of None = v
    point_of (Some p) = p

    by : (t : Bool) → all_data bs ≡ t → pick t (Some (point three bs)) None ≡ Some v → (all_data bs ≡ true) × (v ≡ point three bs)
    by true a f = (a, sym (ap point_of f))
    by false a f = cut_whole f

-- Characters on one line: each advances the cursor by one stride, which is a step of the packed cursor
use Rattle.std.specs.Prelude.{◌+◌, ◌*◌, ◌-◌, ◌/◌, ◌%◌, ◌^◌, ◌<◌, ◌≤◌, ◌≡◌, refl, Bool, true, false, ℕ, zero, suc}
use Rattle.std.proofs.Common.{sym, ap, ◌∙◌, subst, zero-mul, suc-mul, arith, le-leb}
use Rattle.rules.specs.declared.Coordinate.{Coordinate}
use Rattle.rules.specs.declared.FieldBox.{FieldBox}
use Rattle.rules.specs.declared.Operand.{Operand}
use Rattle.rules.specs.declared.Pair.{Pair}
use Rattle.rules.specs.declared.Pair.TheVariants.{NoPair}
use Rattle.rules.specs.declared.Path.{Path}
use Rattle.rules.specs.declared.Path.TheVariants.{Right, Left, Up, Down}
use Rattle.rules.specs.declared.Pen.{Pen}
use Rattle.rules.specs.declared.Point.{Point}
use Rattle.rules.specs.declared.Reach.{Reach}
use Rattle.rules.specs.declared.Text.{Text}
use Rattle.rules.specs.Numbers.{screen_side}
use Rattle.rules.specs.Text.{trunc256, min, max, coordinate_of, positive, further, field_fits, held, stride, after_stride, field_box, spacing_quarters, along_x, forwards, on_axis}
use Rattle.rules.specs.Text.{with_cursor, aligned, set_cursor, set_along, cursor_along, reach_along, next_along, fits_next, advance}
use Rattle.rules.proofs.Bools.{and_both}
use Rattle.rules.proofs.TextLaws.{Stays, min_left, min_right, coordinate_low, held_below, held_truncated, held_exact, stride_truncated, advance_steps, stays_below}
use Rattle.text_lines.specs.Line.{packed, unpacked, place_after, cursor_after, Straight, Within, IsStep}

-- n further than c, forwards or backwards, is v
abbrev Onward : Bool → ℕ → ℕ → ℕ → Type 0
Onward true n c v = v ≡ c + n
Onward false n c v = v + n ≡ c

-- The place v is so far from c, and the field is on the screen there
record Lands (r : Reach) (w : Bool) (n c v : ℕ) : Type 0 where
  pub onward : Onward w n c v
  pub least : r.before ≤ v
  pub most : v ≤ screen_side - r.after
  pub below : v < screen_side

-- The length of an advance
abbrev pub advance_of : Text → ℕ
advance_of t = stride (reach_along t.settings.path t) (spacing_quarters t.settings.spacing)

-- A cursor with its coordinate on the axis of a direction replaced
abbrev along_at : Path → ℕ → Point → Point
along_at d v c = record { x = on_axis d v c.x; y = on_axis d c.y v }

-- The pen whose cursor was set at c
abbrev line_at : Point → Pen → Pen
line_at c s = aligned (with_cursor c NoPair s.text) s

module _ (r : Reach) (n c v : ℕ) (low : c < screen_side) (cut : c % 256 ≡ 0) (stride-cut : n % 256 ≡ 0) where
  difference : (w : Bool) → Lands r w n c v → (further w n (positive c)).ahead - (further w n (positive c)).back ≡ v
  difference true k = let e = k.onward in omega (arith, e)
  difference false k = let e = k.onward in omega (arith, e)

  order : (w : Bool) → Lands r w n c v → (further w n (positive c)).back ≤ (further w n (positive c)).ahead
  order true k = omega arith
  order false k = let e = k.onward in omega (arith, e)

  whole : (w : Bool) → Lands r w n c v → v % 256 ≡ 0
  whole true k = let e = k.onward in omega (arith, e, cut, stride-cut)
  whole false k = let e = k.onward in omega (arith, e, cut, stride-cut)

  lands_fits : (w : Bool) → Lands r w n c v → field_fits r (further w n (coordinate_of c)) ≡ true
  unfolding field_fits
  lands_fits w k =
      let p = further w n (positive c) in
      let e = difference w k in
      subst (λ (q : Coordinate). field_fits r (further w n q) ≡ true) (sym (coordinate_low c low))
      (and_both (le-leb p.back p.ahead (order w k))
      (and_both (le-leb r.before (p.ahead - p.back) (subst (λ (x : ℕ). r.before ≤ x) (sym e) k.least))
      (le-leb (p.ahead - p.back) (screen_side - r.after) (subst (λ (x : ℕ). x ≤ screen_side - r.after) (sym e) k.most))))

  lands_held : (w : Bool) → Lands r w n c v → held r (further w n (coordinate_of c)) ≡ v
  lands_held w k =
      ap (λ (q : Coordinate). held r (further w n q)) (coordinate_low c low)
      ∙ held_exact r (further w n (positive c)) v (difference w k) (whole w k) k.below k.least k.most

  -- There it is held where it stands
  lands_stays : (w : Bool) → Lands r w n c v → held r (coordinate_of v) ≡ v
  lands_stays w k =
      ap (held r) (coordinate_low v k.below)
      ∙ held_exact r (positive v) v (omega arith) (whole w k) k.below k.least k.most

-- A character on a line
module _ (s : Pen) (v : ℕ) (k : Stays s.text) where
  x_low : s.text.cursor.x < screen_side
  x_low = subst (λ (n : ℕ). n < screen_side) k.0 (held_below (field_box s.text).x (coordinate_of s.text.cursor.x))

  y_low : s.text.cursor.y < screen_side
  y_low = subst (λ (n : ℕ). n < screen_side) k.1 (held_below (field_box s.text).y (coordinate_of s.text.cursor.y))

  x_cut : s.text.cursor.x % 256 ≡ 0
  x_cut = subst (λ (n : ℕ). n % 256 ≡ 0) k.0 (held_truncated (field_box s.text).x (coordinate_of s.text.cursor.x))

  y_cut : s.text.cursor.y % 256 ≡ 0
  y_cut = subst (λ (n : ℕ). n % 256 ≡ 0) k.1 (held_truncated (field_box s.text).y (coordinate_of s.text.cursor.y))

  -- By the axis that moves
  along_x_lem : (w : Bool) → Lands (field_box s.text).x w (stride (field_box s.text).x (spacing_quarters s.text.settings.spacing)) s.text.cursor.x v
      → (field_fits (field_box s.text).x (further w (stride (field_box s.text).x (spacing_quarters s.text.settings.spacing)) (coordinate_of s.text.cursor.x)) ≡ true)
      × (set_cursor (further w (stride (field_box s.text).x (spacing_quarters s.text.settings.spacing)) (coordinate_of s.text.cursor.x)) (coordinate_of s.text.cursor.y) s ≡ line_at (record { x = v; y = s.text.cursor.y }) s)
      × Stays (line_at (record { x = v; y = s.text.cursor.y }) s).text
  unfolding set_cursor
  along_x_lem w h =
      let t = s.text in
      let r = (field_box t).x in
      let q = spacing_quarters t.settings.spacing in
      let cut = stride_truncated r q in
      let x = lands_held r (stride r q) t.cursor.x v x_low x_cut cut w h in
      let y = k.1 in (
        lands_fits r (stride r q) t.cursor.x v x_low x_cut cut w h,
        (λ i. line_at (record { x = x i; y = y i }) s),
        (lands_stays r (stride r q) t.cursor.x v x_low x_cut cut w h, k.1),
      )

  along_y : (w : Bool) → Lands (field_box s.text).y w (stride (field_box s.text).y (spacing_quarters s.text.settings.spacing)) s.text.cursor.y v
      → (field_fits (field_box s.text).y (further w (stride (field_box s.text).y (spacing_quarters s.text.settings.spacing)) (coordinate_of s.text.cursor.y)) ≡ true)
      × (set_cursor (coordinate_of s.text.cursor.x) (further w (stride (field_box s.text).y (spacing_quarters s.text.settings.spacing)) (coordinate_of s.text.cursor.y)) s ≡ line_at (record { x = s.text.cursor.x; y = v }) s)
      × Stays (line_at (record { x = s.text.cursor.x; y = v }) s).text
  unfolding set_cursor
  along_y w h =
      let t = s.text in
      let r = (field_box t).y in
      let q = spacing_quarters t.settings.spacing in
      let cut = stride_truncated r q in
      let x = k.0 in
      let y = lands_held r (stride r q) t.cursor.y v y_low y_cut cut w h in (
        lands_fits r (stride r q) t.cursor.y v y_low y_cut cut w h,
        (λ i. line_at (record { x = x i; y = y i }) s),
        (k.0, lands_stays r (stride r q) t.cursor.y v y_low y_cut cut w h),
      )

  -- By the direction
  step_line : (d : Path) → Lands (reach_along d s.text) (forwards d) (stride (reach_along d s.text) (spacing_quarters s.text.settings.spacing)) (cursor_along d s.text) v
      → (fits_next d s.text ≡ true)
      × (set_along d (next_along d s.text) s ≡ line_at (along_at d v s.text.cursor) s)
      × Stays (line_at (along_at d v s.text.cursor) s).text
  unfolding fits_next next_along after_stride set_along along_x forwards
  step_line Right h = along_x_lem true h
  step_line Left h = along_x_lem false h
  step_line Up h = along_y true h
  step_line Down h = along_y false h

  -- It leaves the cursor a stride further, held where it stands
  advance_line : Lands (reach_along s.text.settings.path s.text) (forwards s.text.settings.path) (advance_of s.text) (cursor_along s.text.settings.path s.text) v → advance s ≡ line_at (along_at s.text.settings.path v s.text.cursor) s
  advance_line h =
      let d = s.text.settings.path in
      let e = step_line d h in
      advance_steps s e.0 ∙ e.1

  advance_line_stays : Lands (reach_along s.text.settings.path s.text) (forwards s.text.settings.path) (advance_of s.text) (cursor_along s.text.settings.path s.text) v → Stays (line_at (along_at s.text.settings.path v s.text.cursor) s).text
  advance_line_stays h = (step_line s.text.settings.path h).2

-- So far from c
abbrev strides : Bool → ℕ → ℕ → ℕ
strides true m c = c + m
strides false m c = c - m

-- A held place leaves room for the field after it
held_edge : (r : Reach) (p : Coordinate) → held r p ≤ screen_side - r.after
unfolding held trunc256
held_edge r p =
    let v = max (p.ahead - p.back) r.before in
    omega (arith, min_left (min v (screen_side - r.after)) (screen_side - 256), min_right v (screen_side - r.after))

-- The next place lands
lands_at : (r : Reach) (n c i : ℕ) → c ≤ screen_side - r.after → c < screen_side → (w : Bool) → Within r w n c i → Lands r w n (strides w (i * n) c) (strides w (suc i * n) c)
lands_at r n c i edge low true k =
    let e = suc-mul i n in
    record { onward = omega (arith, e); least = omega (arith, k.0); most = k.1; below = k.2 }
lands_at r n c i edge low false k =
    let e = suc-mul i n in
    record { onward = omega (arith, e, k); least = omega (arith, k); most = omega (arith, edge); below = omega (arith, low) }

-- One step of a packed cursor, by the direction
right_step : (a y n s : ℕ) → s ≡ n → a + n < screen_side → y < screen_side → (a + 4294967296 * y + s) % 2 ^ 64 ≡ a + n + 4294967296 * y
right_step a y n s e f g = omega (arith, e, f, g)

left_step : (a y n s : ℕ) → s < 2 ^ 64 → (s + n) % 2 ^ 64 ≡ 0 → n ≤ a → a < screen_side → y < screen_side → (a + 4294967296 * y + s) % 2 ^ 64 ≡ a - n + 4294967296 * y
left_step a y n s l e f g h = omega (arith, e, f, g, h, l)

up_step : (x a n s : ℕ) → s ≡ n % 4294967296 * 4294967296 → a + n < screen_side → x < screen_side → (x + 4294967296 * a + s) % 2 ^ 64 ≡ x + 4294967296 * (a + n)
up_step x a n s e f g = omega (arith, e, f, g)

down_step : (x a n s : ℕ) → s < 2 ^ 64 → (s + n % 4294967296 * 4294967296) % 2 ^ 64 ≡ 0 → n ≤ a → a < screen_side → x < screen_side → (x + 4294967296 * a + s) % 2 ^ 64 ≡ x + 4294967296 * (a - n)
down_step x a n s l e f g h = omega (arith, e, f, g, h, l)

-- The place on a line after i strides, and the next
stepped : (d : Path) (c : Point) (r : Reach) (n s i : ℕ) → s < 2 ^ 64 → c.x < screen_side → c.y < screen_side → IsStep d n s → Within r (forwards d) n (on_axis d c.x c.y) i
    → (packed (along_at d (strides (forwards d) (i * n) (on_axis d c.x c.y)) c) + s) % 2 ^ 64 ≡ packed (along_at d (strides (forwards d) (suc i * n) (on_axis d c.x c.y)) c)
unfolding along_x forwards
stepped Right c r n s i l x y e k =
    let m = suc-mul i n in
    let same : c.x + i * n + n + 4294967296 * c.y ≡ c.x + suc i * n + 4294967296 * c.y = omega (arith, m) in
    right_step (c.x + i * n) c.y n s e (omega (arith, m, k.2)) y ∙ same
stepped Left c r n s i l x y e k =
    let m = suc-mul i n in
    let same : c.x - i * n - n + 4294967296 * c.y ≡ c.x - suc i * n + 4294967296 * c.y = omega (arith, m) in
    left_step (c.x - i * n) c.y n s l e (omega (arith, m, k)) (omega (arith, x)) y ∙ same
stepped Up c r n s i l x y e k =
    let m = suc-mul i n in
    let same : c.x + 4294967296 * (c.y + i * n + n) ≡ c.x + 4294967296 * (c.y + suc i * n) = omega (arith, m) in
    up_step c.x (c.y + i * n) n s e (omega (arith, m, k.2)) x ∙ same
stepped Down c r n s i l x y e k =
    let m = suc-mul i n in
    let same : c.x + 4294967296 * (c.y - i * n - n) ≡ c.x + 4294967296 * (c.y - suc i * n) = omega (arith, m) in
    down_step c.x (c.y - i * n) n s l e (omega (arith, m, k)) (omega (arith, y)) x ∙ same

started : (d : Path) (c : Point) (n : ℕ) → along_at d (strides (forwards d) (zero * n) (on_axis d c.x c.y)) c ≡ c
unfolding along_x forwards
started Right c n =
    let z : c.x + zero * n ≡ c.x = omega (arith, zero-mul n) in
    λ i. record { x = z i; y = c.y }
started Left c n =
    let z : c.x - zero * n ≡ c.x = omega (arith, zero-mul n) in
    λ i. record { x = z i; y = c.y }
started Up c n =
    let z : c.y + zero * n ≡ c.y = omega (arith, zero-mul n) in
    λ i. record { x = c.x; y = z i }
started Down c n =
    let z : c.y - zero * n ≡ c.y = omega (arith, zero-mul n) in
    λ i. record { x = c.x; y = z i }

-- Only the last place along a direction counts
twice : (d : Path) (u v : ℕ) (c : Point) → along_at d v (along_at d u c) ≡ along_at d v c
unfolding along_x
twice Right u v c = refl
twice Left u v c = refl
twice Up u v c = refl
twice Down u v c = refl

there : (d : Path) (u : ℕ) (c : Point) → on_axis d (along_at d u c).x (along_at d u c).y ≡ u
unfolding along_x
there Right u c = refl
there Left u c = refl
there Up u c = refl
there Down u c = refl

stays_along : (d : Path) (t : Text) → Stays t → held (reach_along d t) (coordinate_of (cursor_along d t)) ≡ cursor_along d t
unfolding along_x
stays_along Right t k = k.0
stays_along Left t k = k.0
stays_along Up t k = k.1
stays_along Down t k = k.1

pub unpack : (p : Point) → p.x < 2 ^ 32 → unpacked (packed p) ≡ p
unpack p h =
    let e : (p.x + 4294967296 * p.y) % 4294967296 ≡ p.x = omega (arith, h) in
    let f : (p.x + 4294967296 * p.y) / 4294967296 ≡ p.y = omega (arith, h) in
    λ i. record { x = e i; y = f i }

-- A line from a cursor that is held where it stands
module _ (t : Text) (s m : ℕ) (k : Stays t) (l : s < 2 ^ 64) (is : IsStep t.settings.path (advance_of t) s)
    (within : (i : ℕ) → i < m → Within (reach_along t.settings.path t) (forwards t.settings.path) (advance_of t) (cursor_along t.settings.path t) i)
    (p : Point) (o : Operand) where
  abbrev placed : ℕ → ℕ
  placed i = strides (forwards t.settings.path) (i * advance_of t) (cursor_along t.settings.path t)

  abbrev cursor_at : ℕ → Point
  cursor_at i = along_at t.settings.path (placed i) t.cursor

  abbrev pen_at : Point → Pair → Pen
  pen_at c w = record { point = p; text = with_cursor c w t; operand = o }

  lands : (i : ℕ) → i < m → Lands (reach_along t.settings.path t) (forwards t.settings.path) (advance_of t) (placed i) (placed (suc i))
  lands i h =
      let d = t.settings.path in
      let r = reach_along d t in
      let c = cursor_along d t in
      let e = stays_along d t k in
      lands_at r (advance_of t) c i (subst (λ (v : ℕ). v ≤ screen_side - r.after) e (held_edge r (coordinate_of c))) (subst (λ (v : ℕ). v < screen_side) e (held_below r (coordinate_of c))) (forwards d) (within i h)

  -- The same, of the cursor there
  lands_there : (i : ℕ) → i < m → Lands (reach_along t.settings.path t) (forwards t.settings.path) (advance_of t) (cursor_along t.settings.path (with_cursor (cursor_at i) NoPair t)) (placed (suc i))
  lands_there i h =
      let d = t.settings.path in
      subst (λ (u : ℕ). Lands (reach_along d t) (forwards d) (advance_of t) u (placed (suc i))) (sym (there d (placed i) t.cursor)) (lands i h)

  stays : (i : ℕ) → i ≤ m → Stays (with_cursor (cursor_at i) NoPair t)
  stays zero h = subst (λ (c : Point). Stays (with_cursor c NoPair t)) (sym (started t.settings.path t.cursor (advance_of t))) k
  stays (suc i) h =
      subst (λ (c : Point). Stays (with_cursor c NoPair t)) (twice t.settings.path (placed i) (placed (suc i)) t.cursor)
      (advance_line_stays (pen_at (cursor_at i) NoPair) (placed (suc i)) (stays i (omega arith)) (lands_there i (omega arith)))

  places : (i : ℕ) → i ≤ m → place_after s (packed t.cursor) i ≡ packed (cursor_at i)
  places zero h = ap packed (sym (started t.settings.path t.cursor (advance_of t)))
  places (suc i) h =
      ap (λ (v : ℕ). (v + s) % 2 ^ 64) (places i (omega arith))
      ∙ stepped t.settings.path t.cursor (reach_along t.settings.path t) (advance_of t) s i l (stays_below t k).0 (stays_below t k).1 is (within i (omega arith))

  cursors : (i : ℕ) → i ≤ m → cursor_after t s i ≡ cursor_at i
  cursors i h = ap unpacked (places i h) ∙ unpack (cursor_at i) (omega (arith, (stays_below (with_cursor (cursor_at i) NoPair t) (stays i h)).0))

  advances : (i : ℕ) → i < m → (w : Pair) → advance (pen_at (cursor_at i) w) ≡ line_at (cursor_at (suc i)) (pen_at (cursor_at i) w)
  advances i h w =
      advance_line (pen_at (cursor_at i) w) (placed (suc i)) (stays i (omega arith)) (lands_there i h)
      ∙ ap (λ (c : Point). line_at c (pen_at (cursor_at i) w)) (twice t.settings.path (placed i) (placed (suc i)) t.cursor)

  straight_on : (i : ℕ) → i < m → (w : Pair) → advance (pen_at (cursor_after t s i) w) ≡ line_at (cursor_after t s (suc i)) (pen_at (cursor_after t s i) w)
  straight_on i h w =
      subst (λ (c : Point). advance (pen_at c w) ≡ line_at (cursor_after t s (suc i)) (pen_at c w)) (sym (cursors i (omega arith)))
      (advances i h w ∙ ap (λ (c : Point). line_at c (pen_at (cursor_at i) w)) (sym (cursors (suc i) (omega arith))))

-- As the code finds it: n is the length of a stride in the reach r, c the cursor's coordinate along the path
pub straight : (t : Text) (b : FieldBox) (r : Reach) (w : Bool) (q n c s m : ℕ) → b ≡ field_box t
    → held b.x (coordinate_of t.cursor.x) ≡ t.cursor.x → held b.y (coordinate_of t.cursor.y) ≡ t.cursor.y
    → r ≡ on_axis t.settings.path b.x b.y → q ≡ spacing_quarters t.settings.spacing → n ≡ stride r q
    → c ≡ cursor_along t.settings.path t → w ≡ forwards t.settings.path
    → ((i : ℕ) → i < m → Within r w n c i) → s < 2 ^ 64 → IsStep t.settings.path n s → Straight t m s
straight t b r w q n c s m be hx hy re qe ne ce we within l is =
    let d = t.settings.path in
    let kx = subst (λ (z : FieldBox). held z.x (coordinate_of t.cursor.x) ≡ t.cursor.x) be hx in
    let ky = subst (λ (z : FieldBox). held z.y (coordinate_of t.cursor.y) ≡ t.cursor.y) be hy in
    let r' : r ≡ reach_along d t = re ∙ (λ j. on_axis d (be j).x (be j).y) in
    let n' : n ≡ advance_of t = ne ∙ (λ j. stride (r' j) (qe j)) in
    let fits : (i : ℕ) → i < m → Within (reach_along d t) (forwards d) (advance_of t) (cursor_along d t) i
    = λ i h. subst (λ (z : Type 0). z) (λ j. Within (r' j) (we j) (n' j) (ce j) i) (within i h) in
    λ i h p x o. straight_on t s m (kx, ky) l (subst (λ (z : ℕ). IsStep d z s) n' is) fits p o i h x

-- Laws of text: held places, absolute settings, there and back, the null pair
use Rattle.std.specs.Prelude.{◌+◌, ◌-◌, ◌/◌, ◌%◌, ◌^◌, ◌<◌, ◌≤◌, ◌≡◌, ◌&&◌}
use Rattle.rules.specs.Prelude.{ℕ, refl, sym, ap, ◌∙◌, subst, Bool, true, false, not}
use Rattle.rules.specs.Prelude.{arith, leb, ltb, leb-true, leb-false, ltb-true, ltb-false, lt-ltb}
use Rattle.rules.specs.Types.{Point, Pen, Due, Rotation, Degrees0, Degrees90, Degrees180, Degrees270, Path, Right, Left, Up, Down}
use Rattle.rules.specs.Types.{Moving, Together, CursorLeads, PointLeads, Independent, Style, Underscore, Block, CrossHair, Custom}
use Rattle.rules.specs.Types.{Repertoire, Positioning, Aps, Nsr, Effector, Apb, Apf, Apd, Apu, Cs, Apr, Aph}
use Rattle.rules.specs.Types.{Pair, NoPair, Automatic, ReturnSeen, FeedSeen, Text, Reach, Coordinate}
use Rattle.rules.specs.Numbers.{screen_side}
use Rattle.rules.specs.Text.{trunc256, min, max, magnitude, coordinate_of, positive, further, field_fits, held, stride, after_stride, half}
use Rattle.rules.specs.Text.{turned_box, box_of, field_box, spacing_quarters, opposite, along_x, forwards, with_cursor, with_text, with_settings, paired}
use Rattle.rules.specs.Text.{offset, point_on, cursor_on, cursor_at, led, aligned, following, follow, set_cursor, set_along, next_along, fits_next}
use Rattle.rules.specs.Text.{enter, row_in, row_down, row_up, first_position, automatic_pair, advance, apb, home, return_in, feed_in, apr, apd}
use Rattle.rules.specs.Text.{formatted, spaces, typed, with_missing, close_text, addressed, positioned, placed_by}
use Rattle.rules.proofs.Bools.{pick_by, pick_all, pick_yes, and_left, and_right}

-- The lesser and the greater of two numbers

pub min_left : (a b : ℕ) → min a b ≤ a
unfolding min
min_left a b = pick_by (λ x. x ≤ a) (leb a b) (λ e. omega arith) (λ e. let h = leb-false a b e in omega arith)

pub min_right : (a b : ℕ) → min a b ≤ b
unfolding min
min_right a b = pick_by (λ x. x ≤ b) (leb a b) (λ e. leb-true a b e) (λ e. omega arith)

pub le_min : (x a b : ℕ) → x ≤ a → x ≤ b → x ≤ min a b
unfolding min
le_min x a b p q = pick_by (λ y. x ≤ y) (leb a b) (λ e. p) (λ e. q)

pub max_left : (a b : ℕ) → a ≤ max a b
unfolding max
max_left a b = pick_by (λ x. a ≤ x) (leb a b) (λ e. leb-true a b e) (λ e. omega arith)

pub max_right : (a b : ℕ) → b ≤ max a b
unfolding max
max_right a b = pick_by (λ x. b ≤ x) (leb a b) (λ e. omega arith) (λ e. let h = leb-false a b e in omega arith)

pub max_le : (x a b : ℕ) → a ≤ x → b ≤ x → max a b ≤ x
unfolding max
max_le x a b p q = pick_by (λ y. y ≤ x) (leb a b) (λ e. q) (λ e. p)

-- Held places

-- What is held, before it is cut
abbrev pub kept : Reach → ℕ → ℕ
kept r v = min (min (max v r.before) (screen_side - r.after)) (screen_side - 256)

kept_max : (r : Reach) (v : ℕ) → kept r v ≤ max v r.before
kept_max r v = omega (arith, min_left (min (max v r.before) (screen_side - r.after)) (screen_side - 256), min_left (max v r.before) (screen_side - r.after))

pub kept_edge : (r : Reach) (v : ℕ) → kept r v ≤ screen_side - r.after
kept_edge r v = omega (arith, min_left (min (max v r.before) (screen_side - r.after)) (screen_side - 256), min_right (max v r.before) (screen_side - r.after))

pub kept_last : (r : Reach) (v : ℕ) → kept r v ≤ screen_side - 256
kept_last r v = min_right (min (max v r.before) (screen_side - r.after)) (screen_side - 256)

pub le_kept : (r : Reach) (v x : ℕ) → x ≤ max v r.before → x ≤ screen_side - r.after → x ≤ screen_side - 256 → x ≤ kept r v
le_kept r v x p q o = le_min x (min (max v r.before) (screen_side - r.after)) (screen_side - 256) (le_min x (max v r.before) (screen_side - r.after) p q) o

-- A held place is on the screen, and a multiple of 256
pub held_below : (r : Reach) (p : Coordinate) → held r p < screen_side
unfolding held trunc256
held_below r p = omega (arith, kept_last r (p.ahead - p.back))

pub held_last : (r : Reach) (p : Coordinate) → held r p ≤ screen_side - 256
unfolding held trunc256
held_last r p = omega (arith, kept_last r (p.ahead - p.back))

pub held_truncated : (r : Reach) (p : Coordinate) → held r p % 256 ≡ 0
unfolding held trunc256
held_truncated r p = omega arith

-- The place of a pattern below 2 ^ 31 is the pattern
pub coordinate_low : (n : ℕ) → n < screen_side → coordinate_of n ≡ positive n
unfolding coordinate_of
coordinate_low n h = rw (lt-ltb n (2 ^ 31) h)

-- Between the cut of a number and the number, every cut is the same
trunc256_between : (m x : ℕ) → trunc256 m ≤ x → x ≤ m → trunc256 x ≡ trunc256 m
unfolding trunc256
trunc256_between m x p q = omega arith

trunc256_le : (m : ℕ) → trunc256 m ≤ m
unfolding trunc256
trunc256_le m = omega arith

-- What is held of a number below what is held
kept_lower : (r : Reach) (v h : ℕ) → h ≤ kept r v → h ≤ kept r (h - 0)
kept_lower r v h e =
    le_kept r (h - 0) h (omega (arith, max_left (h - 0) r.before)) (omega (arith, e, kept_edge r v)) (omega (arith, e, kept_last r v))

kept_upper : (r : Reach) (v h : ℕ) → h ≤ kept r v → kept r (h - 0) ≤ kept r v
kept_upper r v h e =
    le_kept r v (kept r (h - 0))
    (omega (arith, kept_max r (h - 0), max_le (max v r.before) (h - 0) r.before (omega (arith, e, kept_max r v)) (max_right v r.before)))
    (kept_edge r (h - 0))
    (kept_last r (h - 0))

-- A held place is held where it is
pub held_again : (r : Reach) (p : Coordinate) → held r (coordinate_of (held r p)) ≡ held r p
unfolding held
held_again r p =
    let v = p.ahead - p.back in
    let e = trunc256_le (kept r v) in
    rw (coordinate_low (held r p) (held_below r p))
    (trunc256_between (kept r v) (kept r (held r p - 0)) (kept_lower r v (held r p) e) (kept_upper r v (held r p) e))

-- A place that fits, is a multiple of 256 and stands before the end of the screen is held as it is
pub held_exact : (r : Reach) (p : Coordinate) (v : ℕ) → p.ahead - p.back ≡ v → v % 256 ≡ 0 → v < screen_side → r.before ≤ v → v ≤ screen_side - r.after → held r p ≡ v
unfolding held trunc256
held_exact r p v e c below l u = rw e (omega (arith, lower, upper))
  where
    lower : v ≤ kept r v
    lower = le_kept r v v (max_left v r.before) u (omega arith)

    upper : kept r v ≤ v
    upper = omega (arith, kept_max r v, max_le v v r.before (omega arith) l)

-- What a place that fits has
pub fits_positive : (r : Reach) (p : Coordinate) → field_fits r p ≡ true → p.back ≤ p.ahead
unfolding field_fits
fits_positive r p e = leb-true p.back p.ahead (and_left (leb p.back p.ahead) (leb r.before (p.ahead - p.back) && leb (p.ahead - p.back) (screen_side - r.after)) e)

fits_rest : (r : Reach) (p : Coordinate) → field_fits r p ≡ true → (leb r.before (p.ahead - p.back) && leb (p.ahead - p.back) (screen_side - r.after)) ≡ true
unfolding field_fits
fits_rest r p e = and_right (leb p.back p.ahead) (leb r.before (p.ahead - p.back) && leb (p.ahead - p.back) (screen_side - r.after)) e

pub fits_before : (r : Reach) (p : Coordinate) → field_fits r p ≡ true → r.before ≤ p.ahead - p.back
fits_before r p e = leb-true r.before (p.ahead - p.back) (and_left (leb r.before (p.ahead - p.back)) (leb (p.ahead - p.back) (screen_side - r.after)) (fits_rest r p e))

pub fits_after : (r : Reach) (p : Coordinate) → field_fits r p ≡ true → p.ahead - p.back ≤ screen_side - r.after
fits_after r p e = leb-true (p.ahead - p.back) (screen_side - r.after) (and_right (leb r.before (p.ahead - p.back)) (leb (p.ahead - p.back) (screen_side - r.after)) (fits_rest r p e))

-- There and back on an axis: the stride is a multiple of 256, so nothing is lost where both places fit
-- and the first is not the end of the screen, which is held 256 before
pub there_and_back : (w : Bool) (r : Reach) (n c : ℕ) → held r (coordinate_of c) ≡ c → n % 256 ≡ 0 → field_fits r (further w n (coordinate_of c)) ≡ true → (further w n (coordinate_of c)).ahead - (further w n (coordinate_of c)).back < screen_side → field_fits r (further (not w) n (coordinate_of (held r (further w n (coordinate_of c))))) ≡ true → held r (further (not w) n (coordinate_of (held r (further w n (coordinate_of c))))) ≡ c
there_and_back w r n c k m f b g = go w (low w f) (low_below w b) g
  where
    under : c < screen_side
    under = subst (λ (x : ℕ). x < screen_side) k (held_below r (coordinate_of c))

    whole : c % 256 ≡ 0
    whole = subst (λ (x : ℕ). x % 256 ≡ 0) k (held_truncated r (coordinate_of c))

    low : (w : Bool) → field_fits r (further w n (coordinate_of c)) ≡ true → field_fits r (further w n (positive c)) ≡ true
    low w e = subst (λ (p : Coordinate). field_fits r (further w n p) ≡ true) (coordinate_low c under) e

    low_below : (w : Bool) → (further w n (coordinate_of c)).ahead - (further w n (coordinate_of c)).back < screen_side → (further w n (positive c)).ahead - (further w n (positive c)).back < screen_side
    low_below w e = subst (λ (p : Coordinate). (further w n p).ahead - (further w n p).back < screen_side) (coordinate_low c under) e

    -- the first place is held as it is
    first : (w : Bool) (v : ℕ) → field_fits r (further w n (positive c)) ≡ true → (further w n (positive c)).ahead - (further w n (positive c)).back ≡ v → v % 256 ≡ 0 → v < screen_side → held r (further w n (coordinate_of c)) ≡ v
    first w v e d o u =
        ap (λ (p : Coordinate). held r (further w n p)) (coordinate_low c under)
        ∙ held_exact r (further w n (positive c)) v d o u (subst (λ (x : ℕ). r.before ≤ x) d (fits_before r (further w n (positive c)) e)) (subst (λ (x : ℕ). x ≤ screen_side - r.after) d (fits_after r (further w n (positive c)) e))

    second : (w : Bool) (v : ℕ) → v < screen_side → held r (further w n (coordinate_of c)) ≡ v → (further (not w) n (positive v)).ahead - (further (not w) n (positive v)).back ≡ c → field_fits r (further (not w) n (coordinate_of (held r (further w n (coordinate_of c))))) ≡ true → held r (further (not w) n (coordinate_of (held r (further w n (coordinate_of c))))) ≡ c
    second w v u e d f =
        let t = ap coordinate_of e ∙ coordinate_low v u in
        let f' = subst (λ (p : Coordinate). field_fits r (further (not w) n p) ≡ true) t f in
        ap (λ (p : Coordinate). held r (further (not w) n p)) t
        ∙ held_exact r (further (not w) n (positive v)) c d whole under (subst (λ (x : ℕ). r.before ≤ x) d (fits_before r (further (not w) n (positive v)) f')) (subst (λ (x : ℕ). x ≤ screen_side - r.after) d (fits_after r (further (not w) n (positive v)) f'))

    go : (w : Bool) → field_fits r (further w n (positive c)) ≡ true → (further w n (positive c)).ahead - (further w n (positive c)).back < screen_side → field_fits r (further (not w) n (coordinate_of (held r (further w n (coordinate_of c))))) ≡ true → held r (further (not w) n (coordinate_of (held r (further w n (coordinate_of c))))) ≡ c
    go true e b f = second true (c + n) (omega arith) (first true (c + n) e (omega arith) (omega (arith, m, whole)) (omega arith)) (omega arith) f
    go false e b f =
        let h = fits_positive r (further false n (positive c)) e in
        second false (c - n) (omega (arith, under)) (first false (c - n) e (omega arith) (omega (arith, m, whole, h)) (omega (arith, under))) (omega (arith, h)) f

-- Setting the cursor

-- The point that a cursor leads doesn't depend on where the point was led before
pub led_led : (m : Moving) (t u : Text) (p : Point) → led m t (led m u p) ≡ led m t p
unfolding led
led_led Together t u p = refl
led_led CursorLeads t u p = refl
led_led PointLeads t u p = refl
led_led Independent t u p = refl

-- Setting the cursor is absolute
pub set_set : (x y u v : Coordinate) (s : Pen) → set_cursor x y (set_cursor u v s) ≡ set_cursor x y s
unfolding set_cursor
set_set x y u v s =
    λ i. record {
      point = led_led s.text.settings.moving (set_cursor x y s).text (set_cursor u v s).text s.point i;
      text = (set_cursor x y s).text;
      operand = s.operand;
    }

-- Places that are held alike
set_same : (x y u v : Coordinate) (s : Pen) → held (field_box s.text).x x ≡ held (field_box s.text).x u → held (field_box s.text).y y ≡ held (field_box s.text).y v → set_cursor x y s ≡ set_cursor u v s
unfolding set_cursor
set_same x y u v s e f = λ i. aligned (with_cursor (record { x = e i; y = f i }) NoPair s.text) s

-- The cursor that was set may be set where it stands
pub set_again : (x y : Coordinate) (s : Pen) → set_cursor (coordinate_of (set_cursor x y s).text.cursor.x) (coordinate_of (set_cursor x y s).text.cursor.y) (set_cursor x y s) ≡ set_cursor x y s
unfolding set_cursor
set_again x y s =
    let c = (set_cursor x y s).text.cursor in
    set_set (coordinate_of c.x) (coordinate_of c.y) x y s
    ∙ set_same (coordinate_of c.x) (coordinate_of c.y) x y s (held_again (field_box s.text).x x) (held_again (field_box s.text).y y)

-- Following is absolute

following_twice : (m : Moving) (p q : Point) (t : Text) → following m p (following m q t) ≡ following m p t
unfolding following cursor_at
following_twice Together p q t = refl
following_twice CursorLeads p q t = refl
following_twice PointLeads p q t = refl
following_twice Independent p q t = refl

following_moving : (m : Moving) (q : Point) (t : Text) → (following m q t).settings.moving ≡ t.settings.moving
unfolding following
following_moving Together q t = refl
following_moving CursorLeads q t = refl
following_moving PointLeads q t = refl
following_moving Independent q t = refl

pub follow_follow : (p q : Point) (s : Pen) → follow p (follow q s) ≡ follow p s
follow_follow p q s =
    let t = s.text in
    let m = t.settings.moving in
    let e = ap (λ (k : Moving). following k p (following m q t)) (following_moving m q t) ∙ following_twice m p q t in
    λ i. record { point = p; text = e i; operand = s.operand }

-- "After an automatic APR APD, an explicit APR APD, or APD APR, is a null operation": cursor and point are as they were
pub return_feed : (s : Pen) → apd (apr (automatic_pair s)) ≡ paired NoPair (automatic_pair s)
unfolding automatic_pair return_in feed_in
return_feed s = refl

set_paired : (x y : Coordinate) (w : Pair) (s : Pen) → set_cursor x y (paired w s) ≡ set_cursor x y s
unfolding set_cursor
set_paired x y w s = refl

undone : (x y u v : Coordinate) (w o : Pair) (s : Pen) → set_cursor (coordinate_of (set_cursor x y s).text.cursor.x) (coordinate_of (set_cursor x y s).text.cursor.y) (paired w (set_cursor u v (paired o (set_cursor x y s)))) ≡ paired NoPair (paired o (set_cursor x y s))
unfolding set_cursor
undone x y u v w o s =
    let b = set_cursor x y s in
    let X = coordinate_of b.text.cursor.x in
    let Y = coordinate_of b.text.cursor.y in
    set_paired X Y w (set_cursor u v (paired o b)) ∙ set_set X Y u v (paired o b) ∙ set_paired X Y o b ∙ set_again x y s

pub feed_return : (s : Pen) → apr (apd (automatic_pair s)) ≡ paired NoPair (automatic_pair s)
unfolding automatic_pair return_in feed_in row_down row_in set_along
feed_return s = undone _ _ _ _ _ _ (first_position s)

-- There and back

pub stride_truncated : (r : Reach) (n : ℕ) → stride r n % 256 ≡ 0
unfolding stride trunc256
stride_truncated r n = omega arith

-- A cursor that is held where it stands, as every cursor that was set
abbrev pub Stays : Text → Type 0
Stays t = (held (field_box t).x (coordinate_of t.cursor.x) ≡ t.cursor.x) × (held (field_box t).y (coordinate_of t.cursor.y) ≡ t.cursor.y)

pub set_stays : (x y : Coordinate) (s : Pen) → Stays (set_cursor x y s).text
unfolding set_cursor
set_stays x y s = (held_again (field_box s.text).x x, held_again (field_box s.text).y y)

-- The next place is no end of the screen
abbrev pub Before : Path → Text → Type 0
Before d t = (next_along d t).ahead - (next_along d t).back < screen_side

abbrev one_step : Path → Pen → Pen
one_step d s = set_along d (next_along d s.text) s

step_back : (d : Path) (s : Pen) → Stays s.text → fits_next d s.text ≡ true → Before d s.text → fits_next (opposite d) (one_step d s).text ≡ true → (one_step (opposite d) (one_step d s)).text.cursor ≡ s.text.cursor
unfolding set_along set_cursor fits_next next_along after_stride along_x forwards
step_back Right s k f b g =
    let t = s.text in
    λ i. record {
      x = there_and_back true (field_box t).x (stride (field_box t).x (spacing_quarters t.settings.spacing)) t.cursor.x k.0 (stride_truncated (field_box t).x (spacing_quarters t.settings.spacing)) f b g i;
      y = (ap (λ (v : ℕ). held (field_box t).y (coordinate_of v)) k.1 ∙ k.1) i;
    }
step_back Left s k f b g =
    let t = s.text in
    λ i. record {
      x = there_and_back false (field_box t).x (stride (field_box t).x (spacing_quarters t.settings.spacing)) t.cursor.x k.0 (stride_truncated (field_box t).x (spacing_quarters t.settings.spacing)) f b g i;
      y = (ap (λ (v : ℕ). held (field_box t).y (coordinate_of v)) k.1 ∙ k.1) i;
    }
step_back Up s k f b g =
    let t = s.text in
    λ i. record {
      x = (ap (λ (v : ℕ). held (field_box t).x (coordinate_of v)) k.0 ∙ k.0) i;
      y = there_and_back true (field_box t).y (stride (field_box t).y (spacing_quarters t.settings.spacing)) t.cursor.y k.1 (stride_truncated (field_box t).y (spacing_quarters t.settings.spacing)) f b g i;
    }
step_back Down s k f b g =
    let t = s.text in
    λ i. record {
      x = (ap (λ (v : ℕ). held (field_box t).x (coordinate_of v)) k.0 ∙ k.0) i;
      y = there_and_back false (field_box t).y (stride (field_box t).y (spacing_quarters t.settings.spacing)) t.cursor.y k.1 (stride_truncated (field_box t).y (spacing_quarters t.settings.spacing)) f b g i;
    }

pub advance_steps : (s : Pen) → fits_next s.text.settings.path s.text ≡ true → advance s ≡ one_step s.text.settings.path s
unfolding advance
advance_steps s f = pick_yes (one_step s.text.settings.path s) (automatic_pair s) f

apb_steps : (s : Pen) → fits_next (opposite s.text.settings.path) s.text ≡ true → apb s ≡ one_step (opposite s.text.settings.path) s
unfolding apb
apb_steps s f = pick_yes (one_step (opposite s.text.settings.path) s) (row_up (enter (opposite s.text.settings.path) s)) f

-- "The amount is truncated, so APB undoes APF"
pub back_undoes : (s : Pen) → Stays s.text → fits_next s.text.settings.path s.text ≡ true → Before s.text.settings.path s.text → fits_next (opposite s.text.settings.path) (advance s).text ≡ true → (apb (advance s)).text.cursor ≡ s.text.cursor
unfolding set_along set_cursor
back_undoes s k f b g =
    let d = s.text.settings.path in
    let e = advance_steps s f in
    let g' = subst (λ (z : Pen). fits_next (opposite d) z.text ≡ true) e g in
    ap (λ (z : Pen). (apb z).text.cursor) e
    ∙ ap (λ (z : Pen). z.text.cursor) (apb_steps (one_step d s) g')
    ∙ step_back d s k f b g'

-- The point of a held cursor: the offset leads neither below zero nor past the screen

held_before : (r : Reach) (p : Coordinate) → r.before + r.after ≤ screen_side → half r.before ≤ held r p
unfolding held half trunc256
held_before r p e =
    let l = min_left r.before (screen_side - 256) in
    let k = le_kept r (p.ahead - p.back) (min r.before (screen_side - 256)) (omega (arith, l, max_right (p.ahead - p.back) r.before)) (omega (arith, l)) (min_right r.before (screen_side - 256)) in
    omega (arith, k, le_min (r.before / 2) r.before (screen_side - 256) (omega arith) (omega arith))

held_after : (r : Reach) (p : Coordinate) → r.before + r.after ≤ screen_side → held r p + half r.after < screen_side
unfolding held half trunc256
held_after r p e = omega (arith, kept_edge r (p.ahead - p.back), kept_last r (p.ahead - p.back))

-- A sum and difference that do not wrap
unwrapped : (h a b : ℕ) → b ≤ h → h + a < screen_side → ((h + a + (2 ^ 32 - b)) % 2 ^ 32 + b ≡ h + a) × ((h + a + (2 ^ 32 - b)) % 2 ^ 32 < screen_side)
unwrapped h a b p q = (omega arith, omega arith)

-- "point = cursor + offset" of a held cursor: on the screen, and exact
pub point_exact : (o : Style) (r : Reach) (p : Coordinate) → r.before + r.after ≤ screen_side → (point_on (offset o r) (held r p) + (offset o r).before ≡ held r p + (offset o r).after) × (point_on (offset o r) (held r p) < screen_side)
unfolding point_on offset
point_exact Underscore r p e = unwrapped (held r p) 0 0 (omega arith) (omega (arith, held_below r p))
point_exact Block r p e = unwrapped (held r p) 0 0 (omega arith) (omega (arith, held_below r p))
point_exact CrossHair r p e = unwrapped (held r p) (half r.after) (half r.before) (held_before r p e) (held_after r p e)
point_exact Custom r p e = unwrapped (held r p) (half r.after) (half r.before) (held_before r p e) (held_after r p e)

-- What is held depends on the difference alone
held_same : (r : Reach) (p q : Coordinate) → p.ahead - p.back ≡ q.ahead - q.back → held r p ≡ held r q
unfolding held
held_same r p q e = ap (λ (v : ℕ). trunc256 (kept r v)) e

-- The point that a held cursor leads leads the cursor back to where it is
pub point_and_back : (o : Style) (r : Reach) (p : Coordinate) → r.before + r.after ≤ screen_side → cursor_on o r (point_on (offset o r) (held r p)) ≡ held r p
unfolding cursor_on
point_and_back o r p e =
    let q = point_on (offset o r) (held r p) in
    let x = point_exact o r p e in
    ap (λ (z : Coordinate). held r (further true (offset o r).before (further false (offset o r).after z))) (coordinate_low q x.1)
    ∙ held_same r (further true (offset o r).before (further false (offset o r).after (positive q))) (positive (held r p)) (omega (arith, x.0))
    ∙ ap (held r) (sym (coordinate_low (held r p) (held_below r p)))
    ∙ held_again r p

-- Every field of 32-bit patterns has such a reach
magnitude_le : (n : ℕ) → n < 2 ^ 32 → magnitude n ≤ screen_side
unfolding magnitude
magnitude_le n h = pick_by (λ x. x ≤ screen_side) (ltb n (2 ^ 31)) (λ e. let k = ltb-true n (2 ^ 31) e in omega arith) (λ e. let k = ltb-false n (2 ^ 31) e in omega arith)

pub box_fits : (a : Rotation) (f : Point) → f.x < 2 ^ 32 → f.y < 2 ^ 32 → ((box_of a f).x.before + (box_of a f).x.after ≤ screen_side) × ((box_of a f).y.before + (box_of a f).y.after ≤ screen_side)
unfolding box_of turned_box
box_fits Degrees0 f p q = (omega (arith, magnitude_le f.x p), omega (arith, magnitude_le f.y q))
box_fits Degrees90 f p q = (omega (arith, magnitude_le f.y q), omega (arith, magnitude_le f.x p))
box_fits Degrees180 f p q = (omega (arith, magnitude_le f.x p), omega (arith, magnitude_le f.y q))
box_fits Degrees270 f p q = (omega (arith, magnitude_le f.y q), omega (arith, magnitude_le f.x p))

pub offset_before : (o : Style) (r : Reach) → (offset o r).before % 256 ≡ 0
unfolding offset half trunc256
offset_before Underscore r = refl
offset_before Block r = refl
offset_before CrossHair r = omega arith
offset_before Custom r = omega arith

pub offset_after : (o : Style) (r : Reach) → (offset o r).after % 256 ≡ 0
unfolding offset half trunc256
offset_after Underscore r = refl
offset_after Block r = refl
offset_after CrossHair r = omega arith
offset_after Custom r = omega arith

-- Every drawing point that a held cursor leads is a multiple of 256
pub point_truncated : (o : Style) (r : Reach) (p : Coordinate) → r.before + r.after ≤ screen_side → point_on (offset o r) (held r p) % 256 ≡ 0
point_truncated o r p e = sums _ _ _ _ (point_exact o r p e).0 (held_truncated r p) (offset_before o r) (offset_after o r)
  where
    sums : (q b h a : ℕ) → q + b ≡ h + a → h % 256 ≡ 0 → b % 256 ≡ 0 → a % 256 ≡ 0 → q % 256 ≡ 0
    sums q b h a e f g k = omega arith

-- After every act the cursor is held where it stands

pub advance_stays : (s : Pen) → Stays (advance s).text
unfolding advance automatic_pair row_down row_in set_along
advance_stays s =
    pick_all (λ (z : Pen). Stays z.text) (fits_next s.text.settings.path s.text) (set_stays _ _ s) (set_stays _ _ (first_position s))

pub apb_stays : (s : Pen) → Stays (apb s).text
unfolding apb row_up row_in set_along
apb_stays s =
    let d = opposite s.text.settings.path in
    pick_all (λ (z : Pen). Stays z.text) (fits_next d s.text) (set_stays _ _ s) (set_stays _ _ (enter d s))

pub row_stays : (d : Path) (s : Pen) → Stays (row_in d s).text
unfolding row_in set_along
row_stays d s = set_stays _ _ s

pub home_stays : (s : Pen) → Stays (home s).text
unfolding home
home_stays s = set_stays _ _ s

pub apr_stays : (w : Pair) (s : Pen) → Stays s.text → Stays (return_in w s).text
unfolding return_in first_position enter set_along
apr_stays NoPair s k = set_stays _ _ s
apr_stays Automatic s k = k
apr_stays ReturnSeen s k = k
apr_stays (FeedSeen p) s k = set_stays _ _ s

pub apd_stays : (w : Pair) (s : Pen) → Stays s.text → Stays (feed_in w s).text
unfolding feed_in row_down row_in set_along
apd_stays NoPair s k = set_stays _ _ s
apd_stays Automatic s k = set_stays _ _ s
apd_stays ReturnSeen s k = k
apd_stays (FeedSeen p) s k = set_stays _ _ s

pub close_stays : (n : Due) (s : Pen) → Stays (close_text n s).text
unfolding close_text
close_stays n s = set_stays _ _ (with_text (with_settings (with_missing n s.text.settings) s.text) s)

pub addressed_stays : (row column : ℕ) (s : Pen) → Stays (addressed row column s).text
unfolding addressed
addressed_stays row column s = set_stays _ _ s

pub positioned_stays : (row column : ℕ) (s : Pen) → Stays (positioned row column s).text
unfolding positioned
positioned_stays row column s = set_stays _ _ s

following_stays : (m : Moving) (p : Point) (t : Text) → Stays t → Stays (following m p t)
unfolding following cursor_at cursor_on
following_stays Together p t k = (held_again (field_box t).x _, held_again (field_box t).y _)
following_stays CursorLeads p t k = k
following_stays PointLeads p t k = (held_again (field_box t).x _, held_again (field_box t).y _)
following_stays Independent p t k = k

pub follow_stays : (p : Point) (s : Pen) → Stays s.text → Stays (follow p s).text
follow_stays p s k = following_stays s.text.settings.moving p s.text k

-- Such a cursor is on the screen, and a multiple of 256
pub stays_below : (t : Text) → Stays t → (t.cursor.x < screen_side) × (t.cursor.y < screen_side)
stays_below t k =
    (subst (λ (v : ℕ). v < screen_side) k.0 (held_below (field_box t).x (coordinate_of t.cursor.x)), subst (λ (v : ℕ). v < screen_side) k.1 (held_below (field_box t).y (coordinate_of t.cursor.y)))

pub stays_truncated : (t : Text) → Stays t → (t.cursor.x % 256 ≡ 0) × (t.cursor.y % 256 ≡ 0)
stays_truncated t k =
    (subst (λ (v : ℕ). v % 256 ≡ 0) k.0 (held_truncated (field_box t).x (coordinate_of t.cursor.x)), subst (λ (v : ℕ). v % 256 ≡ 0) k.1 (held_truncated (field_box t).y (coordinate_of t.cursor.y)))

-- No act of text touches a begun operand

pub advance_operand : (s : Pen) → (advance s).operand ≡ s.operand
unfolding advance automatic_pair row_down row_in first_position enter set_along set_cursor
advance_operand s = pick_all (λ (z : Pen). z.operand ≡ s.operand) (fits_next s.text.settings.path s.text) refl refl

apb_operand : (s : Pen) → (apb s).operand ≡ s.operand
unfolding apb row_up row_in enter set_along set_cursor
apb_operand s = pick_all (λ (z : Pen). z.operand ≡ s.operand) (fits_next (opposite s.text.settings.path) s.text) refl refl

return_operand : (x : Pair) (s : Pen) → (return_in x s).operand ≡ s.operand
unfolding return_in first_position enter set_along set_cursor
return_operand NoPair s = refl
return_operand Automatic s = refl
return_operand ReturnSeen s = refl
return_operand (FeedSeen p) s = refl

feed_operand : (x : Pair) (s : Pen) → (feed_in x s).operand ≡ s.operand
unfolding feed_in row_down row_in set_along set_cursor
feed_operand NoPair s = refl
feed_operand Automatic s = refl
feed_operand ReturnSeen s = refl
feed_operand (FeedSeen p) s = refl

pub format_operand : (x : Effector) (s : Pen) → (formatted x s).operand ≡ s.operand
unfolding row_up row_in set_along set_cursor home
format_operand Apb s = apb_operand s
format_operand Apf s = advance_operand s
format_operand Apd s = feed_operand s.text.pair s
format_operand Apu s = refl
format_operand Cs s = refl
format_operand Apr s = return_operand s.text.pair s
format_operand Aph s = refl

pub typed_operand : (x : Repertoire) (b : ℕ) (s : Pen) → (typed x b s).operand ≡ s.operand
unfolding typed
typed_operand x b s = pick_all (λ (z : Pen). z.operand ≡ s.operand) (spaces x b) (advance_operand s) refl

pub place_operand : (x : Positioning) (r c : ℕ) (s : Pen) → (placed_by x r c s).operand ≡ s.operand
unfolding addressed positioned set_cursor
place_operand Aps r c s = refl
place_operand Nsr r c s = refl

-- Operands whose bytes have all come
use Rattle.std.specs.Prelude.{◌≡◌, ◌↔◌, IsTrue, EachIndex, Some, None, ◌&&◌, ◌∷◌, ◌++◌, ◌+◌, ◌*◌, ◌/◌, ◌%◌, ◌≤◌, ◌<◌}
use Rattle.operands.specs.Prelude.{refl, sym, ap, ◌∙◌, Bool, true, false, not, List, [], ℕ, zero, suc, le_of_suc-le-suc, not-suc-le-zero, arith, leb, eqb, length, get_or, take, drop, take_all, drop-cons, leb-true, leb-false, eq-eqb, ne_eqb, eqb-true, not-true}
use Rattle.rules.specs.declared.Point.{Point}
use Rattle.rules.specs.Operands.{bits_of, from_top, point, is_data, all_data}
use Rattle.rules.proofs.Bools.{true_false, and_left, and_right, and_both, by_test, by_truth, pick_yes, pick_no}
use Rattle.operands.specs.Steps.{joined}
use Rattle.operands.specs.Data.{whole_of, three_of, three_at}
use Rattle.operands.proofs.Operands.{point_more, join_two}

pub byte_most : (b : ℕ) → b < 256 → b ≤ 255
byte_most b h = omega arith

-- The highest bits tell data
pub data_test : (b : ℕ) → eqb (b / 64) 1 ≡ is_data b
unfolding is_data
data_test b = go (leb 64 b) (leb b 127) refl refl
  where
    go : (t u : Bool) → leb 64 b ≡ t → leb b 127 ≡ u → eqb (b / 64) 1 ≡ (t && u)
    go true true e f = eq-eqb (b / 64) 1 (omega (arith, leb-true 64 b e, leb-true b 127 f))
    go true false e f = ne_eqb (b / 64) 1 (λ z. absurd (omega (arith, z, leb-false b 127 f)))
    go false u e f = ne_eqb (b / 64) 1 (λ z. absurd (omega (arith, z, leb-false 64 b e)))

pub all_more : (bs : List ℕ) (b : ℕ) → all_data bs ≡ true → is_data b ≡ true → all_data (bs ++ (b ∷ [])) ≡ true
unfolding all_data
all_more [] b e f = and_both f refl
all_more (x ∷ xs) b e f = and_both (and_left (is_data x) (all_data xs) e) (all_more xs b (and_right (is_data x) (all_data xs) e) f)

pub all_at : (bs : List ℕ) (i : ℕ) → i < length bs → all_data bs ≡ true → is_data (get_or bs i 0) ≡ true
unfolding all_data
all_at [] i h e = absurd (not-suc-le-zero h)
all_at (x ∷ xs) zero h e = and_left (is_data x) (all_data xs) e
all_at (x ∷ xs) (suc i) h e = all_at xs i (le_of_suc-le-suc h) (and_right (is_data x) (all_data xs) e)

-- Byte by byte
data_each : (bs : List ℕ) → EachIndex bs (λ k. get_or bs k 0 / 64 ≡ 1) → all_data bs ≡ true
unfolding all_data
data_each [] h = refl
data_each (b ∷ bs) h = and_both (sym (data_test b) ∙ eq-eqb (b / 64) 1 (h 0 (omega arith))) (data_each bs (λ i k. h (suc i) (omega (arith, k))))

each_data : (bs : List ℕ) → all_data bs ≡ true → EachIndex bs (λ k. get_or bs k 0 / 64 ≡ 1)
each_data bs e i h = eqb-true (get_or bs i 0 / 64) 1 (data_test (get_or bs i 0) ∙ all_at bs i h e)

pub all_told : (bs : List ℕ) (t : Bool) → (IsTrue t ↔ EachIndex bs (λ k. get_or bs k 0 / 64 ≡ 1)) → t ≡ all_data bs
all_told bs t f =
    by_truth t (all_data bs) (λ e. data_each bs (f.0 e))
    (λ e. by_test (all_data bs) (λ g. true_false (sym (f.1 (each_data bs g)) ∙ e)) (λ g. g))

-- What whole operands are told as
module _ (three : Bool) (bs : List ℕ) where
  pub is_whole : all_data bs ≡ true → Some (point three bs) ≡ whole_of three bs
  unfolding whole_of
  is_whole e = sym (pick_yes _ _ e)

  pub is_cut : all_data bs ≡ false → None ≡ whole_of three bs
  unfolding whole_of
  is_cut e = sym (pick_no _ _ e)

-- ---- three bytes as a number

pub three_taken : (bs : List ℕ) (at : ℕ) → at + 3 ≤ length bs → take 3 (drop at bs) ≡ get_or bs at 0 ∷ get_or bs (at + 1) 0 ∷ get_or bs (at + 2) 0 ∷ []
three_taken bs at h =
    let e1 : at + 1 ≡ suc at = omega arith in
    let e2 : at + 2 ≡ suc (suc at) = omega arith in
    rw (e1, e2, drop-cons bs at 0 (omega arith), drop-cons bs (suc at) 0 (omega arith), drop-cons bs (suc (suc at)) 0 (omega arith))

-- Numbers of three bytes without the lowest three bits, the first byte's rest a
first_eighth : (a b1 b2 : ℕ) → (a + 32 * b1 + 8192 * b2) % 8 ≡ a % 8
first_eighth a b1 b2 = omega arith

second_eighth : (a b1 b2 : ℕ) → a < 32 → (a + 32 * b1 + 8192 * b2) / 256 % 8 ≡ b1 / 8 % 8
second_eighth a b1 b2 h = omega arith

third_eighth : (a b1 b2 : ℕ) → a < 32 → b1 ≤ 255 → (a + 32 * b1 + 8192 * b2) / 65536 % 8 ≡ b2 / 8 % 8
third_eighth a b1 b2 h k =
    let e : (a + 32 * b1 + 8192 * b2) / 8192 ≡ b2 = omega arith in
    let f : (a + 32 * b1 + 8192 * b2) / 65536 ≡ (a + 32 * b1 + 8192 * b2) / 8192 / 8 = omega arith in
    rw (f, e)

-- The point whose coordinates are put together from three bits of each byte
pub three_points : (b0 b1 b2 x y : ℕ)
    → x ≡ (b0 / 8 % 8 * 64 + b1 / 8 % 8 * 8 + b2 / 8 % 8) * 8388608
    → y ≡ (b0 % 8 * 64 + b1 % 8 * 8 + b2 % 8) * 8388608
    → record { x = x; y = y } ≡ point false (b0 ∷ b1 ∷ b2 ∷ [])
unfolding point from_top bits_of
three_points b0 b1 b2 x y e f =
    let x0 = b0 / 8 % 8 * 536870912 in
    let y0 = b0 % 8 * 536870912 in
    let x1 = x0 + b1 / 8 % 8 * 67108864 in
    let y1 = y0 + b1 % 8 * 67108864 in
    let o : Point = record { x = 0; y = 0 } in
    let p0 : Point = record { x = x0; y = y0 } in
    let p1 : Point = record { x = x1; y = y1 } in
    let s0 : p0 ≡ point false (b0 ∷ []) = join_two o x0 y0 0 b0 (omega arith) (omega arith) (omega arith) ∙ sym (point_more false [] b0) in
    let s1 : p1 ≡ point false (b0 ∷ b1 ∷ []) = join_two p0 x1 y1 1 b1 (omega arith) (omega arith) (omega arith) ∙ ap (joined false 1 b1) s0 ∙ sym (point_more false (b0 ∷ []) b1) in
    join_two p1 x y 2 b2 (omega arith) (omega arith) (omega arith) ∙ ap (joined false 2 b2) s1 ∙ sym (point_more false (b0 ∷ b1 ∷ []) b2)

module _ (w b0 b1 b2 : ℕ) (h0 : b0 ≤ 255) (h1 : b1 ≤ 255) (h2 : b2 ≤ 255) (e : w ≡ three_of b0 b1 b2) where
  first_low : w % 8 ≡ b0 % 8
  first_low = omega arith

  second_low : w / 256 % 8 ≡ b1 % 8
  second_low = omega arith

  third_low : w / 65536 % 8 ≡ b2 % 8
  third_low = omega arith

  eighth : w / 8 ≡ b0 / 8 + 32 * b1 + 8192 * b2
  eighth = omega arith

  pub point_is : (x y : ℕ)
      → x ≡ (w / 8 % 8 * 64 + w / 8 / 256 % 8 * 8 + w / 8 / 65536 % 8) * 8388608
      → y ≡ (w % 8 * 64 + w / 256 % 8 * 8 + w / 65536 % 8) * 8388608
      → record { x = x; y = y } ≡ point false (b0 ∷ b1 ∷ b2 ∷ [])
  point_is x y f g =
      three_points b0 b1 b2 x y
      (f ∙ rw (eighth, first_eighth (b0 / 8) b1 b2, second_eighth (b0 / 8) b1 b2 (omega arith), third_eighth (b0 / 8) b1 b2 (omega arith) h1))
      (g ∙ rw (first_low, second_low, third_low))

  first_is : w / 64 % 4 ≡ b0 / 64
  first_is = omega arith

  second_is : w / 16384 % 4 ≡ b1 / 64
  second_is = omega arith

  third_is : w / 4194304 % 4 ≡ b2 / 64
  third_is = omega arith

  tested : (eqb (w / 64 % 4) 1 && (eqb (w / 16384 % 4) 1 && eqb (w / 4194304 % 4) 1)) ≡ all_data (b0 ∷ b1 ∷ b2 ∷ [])
  unfolding all_data
  tested = rw (first_is, second_is, third_is, data_test b0, data_test b1, data_test b2) (and_same (is_data b0) (is_data b1) (is_data b2))
    where
      and_same : (t u v : Bool) → (t && (u && v)) ≡ (t && (u && (v && true)))
      and_same t u true = refl
      and_same t u false = refl

  -- As the code tests them, each where those before are data
  pub third_tells : w / 64 % 4 ≡ 1 → w / 16384 % 4 ≡ 1 → eqb (w / 4194304 % 4) 1 ≡ all_data (b0 ∷ b1 ∷ b2 ∷ [])
  third_tells p q = rw (eq-eqb (w / 64 % 4) 1 p, eq-eqb (w / 16384 % 4) 1 q) at tested

  pub second_fails : w / 64 % 4 ≡ 1 → (w / 16384 % 4 ≡ 1 → ⊥) → eqb (w / 16384 % 4) 1 ≡ all_data (b0 ∷ b1 ∷ b2 ∷ [])
  second_fails p q =
      let x = ne_eqb (w / 16384 % 4) 1 q in
      x ∙ (rw (eq-eqb (w / 64 % 4) 1 p, x) at tested)

  pub first_fails : (w / 64 % 4 ≡ 1 → ⊥) → eqb (w / 64 % 4) 1 ≡ all_data (b0 ∷ b1 ∷ b2 ∷ [])
  first_fails p =
      let x = ne_eqb (w / 64 % 4) 1 p in
      x ∙ (rw x at tested)

-- The three bytes at a place
module _ (bs : List ℕ) (at : ℕ) (h : at + 3 ≤ length bs) (fits : (i : ℕ) → get_or bs i 0 < 256) where
  pub three_told : {A : Type 0} (f : List ℕ → A) (r : A) (w : ℕ)
      → ((b0 b1 b2 : ℕ) → b0 ≤ 255 → b1 ≤ 255 → b2 ≤ 255 → w ≡ three_of b0 b1 b2 → r ≡ f (b0 ∷ b1 ∷ b2 ∷ []))
      → w ≡ three_at bs at → r ≡ f (take 3 (drop at bs))
  three_told f r w g e =
      g (get_or bs at 0) (get_or bs (at + 1) 0) (get_or bs (at + 2) 0) (byte_most _ (fits at)) (byte_most _ (fits (at + 1))) (byte_most _ (fits (at + 2))) e
      ∙ ap f (sym (three_taken bs at h))

-- Three bytes and no more
pub three_whole : (bs : List ℕ) → length bs ≡ 3 → ((i : ℕ) → get_or bs i 0 < 256) → {A : Type 0} (f : List ℕ → A) (r : A) (w : ℕ)
    → ((b0 b1 b2 : ℕ) → b0 ≤ 255 → b1 ≤ 255 → b2 ≤ 255 → w ≡ three_of b0 b1 b2 → r ≡ f (b0 ∷ b1 ∷ b2 ∷ []))
    → w ≡ three_at bs 0 → r ≡ f bs
three_whole bs h fits f r w g e =
    three_told bs 0 (omega arith) fits f r w g e ∙ ap f (take_all 3 bs (omega arith))

-- Three bytes in two dimensions
pub is_three : (n : ℕ) (three t : Bool) → t ≡ (eqb n 3 && not three) → t ≡ true → (n ≡ 3) × (three ≡ false)
is_three n three t e f =
    let g = sym e ∙ f in
    (eqb-true n 3 (and_left (eqb n 3) (not three) g), not-true three (and_right (eqb n 3) (not three) g))

-- The number that `from_top` makes of bits, and the bits that bytes give
use Rattle.std.specs.Prelude.{◌≡◌, ◌∷◌, ◌++◌, ◌+◌, ◌*◌, ◌-◌, ◌/◌, ◌%◌, ◌^◌, ◌≤◌, ◌<◌}
use Rattle.rules.specs.Prelude.{refl, sym, ap, ◌∙◌, List, [], map, append_assoc, ℕ, zero, suc, zero-add, add_assoc, zero-sub, sub-zero, suc-sub-suc, suc-add, zero-mul, mul-zero, mul_assoc, add-mul, mod-lt, mod-one, zero-div, mul-le-mul_right, arith, get_or, take, take-nil, take-append-add, div-eq_of_lt, mul-add-div_right, length, length-append, replicate, pow-suc, pow-add, pow_pos, mod-pow-add, shr-shr}
use Rattle.rules.specs.Operands.{bit, three_tuples, green, red, blue, green_bits, red_bits, blue_bits, bits_of, from_top}

-- No bits
pub from_none : (n : ℕ) → from_top n [] ≡ 0
unfolding from_top
from_none zero = refl
from_none (suc n) = refl

-- One more bit stands below the others
pub from_next : (n : ℕ) (xs : List ℕ) → from_top (suc n) xs ≡ from_top n xs * 2 + get_or xs n 0
unfolding from_top
from_next zero [] = refl
from_next zero (x ∷ xs) = omega arith
from_next (suc n) [] = refl
from_next (suc n) (x ∷ xs) =
    let e : x * 2 ^ suc n ≡ x * 2 ^ n * 2 = ap (λ (m : ℕ). x * m) (pow-suc 2 n) ∙ sym (mul_assoc x (2 ^ n) 2) in
    omega (arith, from_next n xs, e)

-- Bits after others stand as much lower
pub from_append : (n : ℕ) (xs ys : List ℕ) → from_top n (xs ++ ys) ≡ from_top n xs + from_top (n - length xs) ys
unfolding from_top
from_append zero xs ys = rw zero-sub
from_append (suc n) [] ys = sym (rw sub-zero (zero-add (from_top (suc n) ys)))
from_append (suc n) (x ∷ xs) ys =
    rw (suc-sub-suc, from_append n xs ys) (sym (add_assoc (x * 2 ^ n) (from_top n xs) (from_top (n - length xs) ys)))

-- Bits that all fit, k places higher
pub from_above : (k : ℕ) (xs : List ℕ) → from_top (length xs + k) xs ≡ from_top (length xs) xs * 2 ^ k
unfolding from_top
from_above k [] = from_none (0 + k) ∙ sym (zero-mul (2 ^ k))
from_above k (x ∷ xs) =
    rw (suc-add, from_above k xs, pow-add 2 (length xs) k, add-mul) (ap (λ (m : ℕ). m + from_top (length xs) xs * 2 ^ k) (sym (mul_assoc x (2 ^ length xs) (2 ^ k))))

-- Zero bits
pub from_zeros : (n k : ℕ) → from_top n (replicate k 0) ≡ 0
unfolding from_top
from_zeros zero k = refl
from_zeros (suc n) zero = refl
from_zeros (suc n) (suc k) = rw (zero-mul, from_zeros n k)

-- A list of bits
pub data Bits : List ℕ → Type 0 where
  none : Bits []
  more : {x : ℕ} {xs : List ℕ} → x < 2 → Bits xs → Bits (x ∷ xs)

-- n bits make less than 2 ^ n
pub from_lt : (n : ℕ) {xs : List ℕ} → Bits xs → from_top n xs < 2 ^ n
unfolding from_top
from_lt n none = rw from_none (pow_pos n)
from_lt zero (more h t) = omega arith
from_lt (suc n) (more {x} {xs} h t) =
    let i = from_lt n t in
    let m : x * 2 ^ n ≤ 1 * 2 ^ n = mul-le-mul_right (2 ^ n) (omega arith) in
    omega arith

-- The number without its bits after the first m
pub from_take : (n m : ℕ) {xs : List ℕ} → Bits xs → from_top n (take m xs) ≡ from_top n xs / 2 ^ (n - m) * 2 ^ (n - m)
unfolding from_top
from_take zero m {xs} h = sym (rw (zero-div (2 ^ (0 - m))) (zero-mul (2 ^ (0 - m))))
from_take (suc n) zero {xs} h =
    sym (rw (sub-zero, div-eq_of_lt (from_lt (suc n) h)) (zero-mul (2 ^ suc n)))
from_take (suc n) (suc m) none = sym (rw (zero-div (2 ^ (suc n - suc m))) (zero-mul (2 ^ (suc n - suc m))))
from_take (suc n) (suc m) (more {x} {xs} h t) =
    let p = 2 ^ (n - m) in
    let q = 2 ^ (n - (n - m)) in
    let e : 2 ^ n ≡ q * p = ap (λ (k : ℕ). 2 ^ k) (omega arith) ∙ pow-add 2 (n - (n - m)) (n - m) in
    let f : x * 2 ^ n ≡ x * q * p = ap (λ (k : ℕ). x * k) e ∙ sym (mul_assoc x q p) in
    rw (suc-sub-suc, from_take n m t, f, mul-add-div_right (pow_pos (n - m)) (x * q) (from_top n xs)) (sym (add-mul (x * q) (from_top n xs / p) p))

-- ---- the bits of bytes, each giving w of them by f

bits_append : (f : ℕ → List ℕ) (bs cs : List ℕ) → bits_of f (bs ++ cs) ≡ bits_of f bs ++ bits_of f cs
unfolding bits_of
bits_append f [] cs = refl
bits_append f (b ∷ bs) cs = rw (bits_append f bs cs) (sym (append_assoc (f b) (bits_of f bs) (bits_of f cs)))

module _ (f : ℕ → List ℕ) (w : ℕ) (wide : (b : ℕ) → length (f b) ≡ w) where
  bits_length : (bs : List ℕ) → length (bits_of f bs) ≡ w * length bs
  unfolding bits_of
  bits_length [] = sym (mul-zero w)
  bits_length (b ∷ bs) = omega (arith, length-append (f b) (bits_of f bs), wide b, bits_length bs)

  -- The bits of the first bytes come first
  pub bits_take : (k : ℕ) (bs : List ℕ) → bits_of f (take k bs) ≡ take (w * k) (bits_of f bs)
  unfolding bits_of
  bits_take zero bs = rw (mul-zero w)
  bits_take (suc k) [] = sym (take-nil (w * suc k))
  bits_take (suc k) (b ∷ bs) =
      let e : w * suc k ≡ length (f b) + w * k = omega (arith, wide b) in
      rw (e, bits_take k bs) (sym (take-append-add (f b) (bits_of f bs) (w * k)))

  -- More bytes: their bits stand below those of the bytes before
  pub from_more : (n : ℕ) (bs cs : List ℕ) → from_top n (bits_of f (bs ++ cs)) ≡ from_top n (bits_of f bs) + from_top (n - w * length bs) (bits_of f cs)
  from_more n bs cs =
      rw (bits_append f bs cs, from_append n (bits_of f bs) (bits_of f cs), bits_length bs)

both_bits : {xs ys : List ℕ} → Bits xs → Bits ys → Bits (xs ++ ys)
both_bits none u = u
both_bits (more h t) u = more h (both_bits t u)

pub all_bits : (f : ℕ → List ℕ) → ((b : ℕ) → Bits (f b)) → (bs : List ℕ) → Bits (bits_of f bs)
unfolding bits_of
all_bits f h [] = none
all_bits f h (b ∷ bs) = both_bits (h b) (all_bits f h bs)

-- One bit of each of a byte's three-tuples
module _ (f : ℕ → ℕ) (bit-of : (t : ℕ) → f t < 2) where
  taken_bits : (ts : List ℕ) → Bits (map f ts)
  taken_bits [] = none
  taken_bits (t ∷ ts) = more (bit-of t) (taken_bits ts)

pub green_bits_lem : (b : ℕ) → Bits (green_bits b)
unfolding green_bits
green_bits_lem b = taken_bits green (λ t. omega arith) (three_tuples b)

pub red_bits_lem : (b : ℕ) → Bits (red_bits b)
unfolding red_bits
red_bits_lem b = taken_bits red (λ t. omega arith) (three_tuples b)

pub blue_bits_lem : (b : ℕ) → Bits (blue_bits b)
unfolding blue_bits
blue_bits_lem b = taken_bits blue (λ t. omega arith) (three_tuples b)

-- ---- bits that stand in a row

-- The w bits of a byte above the k lowest
abbrev pub row : ℕ → ℕ → ℕ → List ℕ
row zero k b = []
row (suc w) k b = bit (k + suc w) b ∷ row w k b

pub row_length : (w k b : ℕ) → length (row w k b) ≡ w
row_length zero k b = refl
row_length (suc w) k b = ap suc (row_length w k b)

pub row_bits : (w k b : ℕ) → Bits (row w k b)
unfolding bit
row_bits zero k b = none
row_bits (suc w) k b = more (mod-lt (b / 2 ^ (k + suc w - 1)) (omega arith)) (row_bits w k b)

pub row_zeros : (w k : ℕ) → row w k 0 ≡ replicate w 0
unfolding bit
row_zeros zero k = refl
row_zeros (suc w) k = rw (zero-div, row_zeros w k)

-- They are a part of the byte
pub from_row : (w k b : ℕ) → from_top w (row w k b) ≡ b / 2 ^ k % 2 ^ w
unfolding from_top bit
from_row zero k b = sym (mod-one (b / 2 ^ k))
from_row (suc w) k b =
    let e : k + suc w - 1 ≡ k + w = omega arith in
    let f : suc w ≡ 1 + w = omega arith in
    rw (from_row w k b, e, f, mod-pow-add (b / 2 ^ k) 1 w, shr-shr b k w)

-- An operand's point byte by byte, and the parts of its bytes that addresses, colours and lengths are
use Rattle.std.specs.Prelude.{◌≡◌, ◌∷◌, ◌++◌, ◌+◌, ◌*◌, ◌-◌, ◌/◌, ◌%◌, ◌^◌, ◌<◌, ◌≤◌}
use Rattle.operands.specs.Prelude.{refl, sym, ◌∙◌, Bool, true, false, List, [], append-nil, ℕ, zero, suc, pow_mono, add-zero, div-one, mod-eq_of_lt, add-one, arith, eqb, length, get_or, take, replicate, take-suc, length-take-le}
use Rattle.rules.specs.declared.Point.{Point}
use Rattle.rules.specs.Operands.{bit, x_bits, y_bits, green, red, blue, green_bits, red_bits, blue_bits, bits_of, from_top, point, address, wrapped_sum}
use Rattle.rules.specs.Drawing.{domain_of}
use Rattle.operands.specs.declared.Hue.{Hue}
use Rattle.operands.specs.Steps.{joined, with_tuples}
use Rattle.rules.proofs.Bits.{from_none, from_next, from_append, from_above, from_zeros, from_lt, from_more, Bits, green_bits_lem, red_bits_lem, blue_bits_lem, all_bits, row, row_length, row_bits, row_zeros, from_row}

-- ---- points

-- One coordinate: of each byte the w bits above the k lowest
module _ (w k : ℕ) where
  coordinate : List ℕ → ℕ
  coordinate bs = from_top 32 (bits_of (row w k) bs)

  below : (bs : List ℕ) → coordinate bs < 2 ^ 32
  unfolding coordinate
  below bs = from_lt 32 (all_bits (row w k) (row_bits w k) bs)

  sum_of : (bs : List ℕ) (b : ℕ) → coordinate (bs ++ (b ∷ [])) ≡ coordinate bs + from_top (32 - w * length bs) (row w k b)
  unfolding coordinate bits_of
  sum_of bs b = rw (← append-nil (row w k b)) (from_more (row w k) w (row_length w k) 32 bs (b ∷ []))

  one_more : (bs : List ℕ) (b : ℕ) → coordinate (bs ++ (b ∷ [])) ≡ wrapped_sum (coordinate bs) (from_top (32 - w * length bs) (row w k b))
  unfolding wrapped_sum
  one_more bs b = sum_of bs b ∙ sym (mod-eq_of_lt (rw (sum_of bs b) at (below (bs ++ (b ∷ [])))))

  zeros : (n m : ℕ) → from_top n (bits_of (row w k) (replicate m 0)) ≡ 0
  unfolding bits_of
  zeros n zero = from_none n
  zeros n (suc m) =
      rw (from_append n (row w k 0) (bits_of (row w k) (replicate m 0)), zeros (n - length (row w k 0)) m, row_zeros w k, from_zeros n w)

  no_more : (bs : List ℕ) (m : ℕ) → coordinate (bs ++ replicate m 0) ≡ coordinate bs
  unfolding coordinate
  no_more bs m = rw (from_more (row w k) w (row_length w k) 32 bs (replicate m 0), zeros (32 - w * length bs) m) (add-zero (coordinate bs))

  -- The bits of the byte after i others, s places up
  placed : (i s b : ℕ) → 32 - w * i ≡ w + s → from_top (32 - w * i) (row w k b) ≡ b / 2 ^ k % 2 ^ w * 2 ^ s
  placed i s b e = rw e (rw (row_length w k b, from_row w k b) at (from_above s (row w k b)))

-- What one more byte makes of an operand's point
pub point_more : (three : Bool) (bs : List ℕ) (b : ℕ) → point three (bs ++ (b ∷ [])) ≡ joined three (length bs) b (point three bs)
unfolding point joined x_bits y_bits coordinate
point_more false bs b = λ i. record { x = one_more 3 3 bs b i; y = one_more 3 0 bs b i }
point_more true bs b = λ i. record { x = one_more 2 4 bs b i; y = one_more 2 2 bs b i }

-- The same along a list
pub point_next : (three : Bool) (bs : List ℕ) (i : ℕ) → i < length bs → point three (take (i + 1) bs) ≡ joined three i (get_or bs i 0) (point three (take i bs))
point_next three bs i h =
    rw (add-one, take-suc bs i 0 h, point_more three (take i bs) (get_or bs i 0), length-take-le i bs (omega arith))

-- The code's shifts: by 3 bits for each byte before, or by 2
module _ (p : Point) (x y i b : ℕ) (h : i < 8) where
  pub join_two : x ≡ (p.x + b / 8 % 8 * 2 ^ (29 - 3 * i)) % 2 ^ 32 → y ≡ (p.y + b % 8 * 2 ^ (29 - 3 * i)) % 2 ^ 32 → record { x = x; y = y } ≡ joined false i b p
  unfolding joined wrapped_sum x_bits y_bits
  join_two e f =
      let d : 32 - 3 * i ≡ 3 + (29 - 3 * i) = omega arith in
      rw (placed 3 3 i (29 - 3 * i) b d, placed 3 0 i (29 - 3 * i) b d, div-one, e, f)

  pub join_three : x ≡ (p.x + b / 16 % 4 * 2 ^ (30 - 2 * i)) % 2 ^ 32 → y ≡ (p.y + b / 4 % 4 * 2 ^ (30 - 2 * i)) % 2 ^ 32 → record { x = x; y = y } ≡ joined true i b p
  unfolding joined wrapped_sum x_bits y_bits
  join_three e f =
      let d : 32 - 2 * i ≡ 2 + (30 - 2 * i) = omega arith in
      rw (placed 2 4 i (30 - 2 * i) b d, placed 2 2 i (30 - 2 * i) b d, e, f)

-- Bytes that never came are as zero bytes
pub point_rest : (three : Bool) (bs : List ℕ) (m : ℕ) → point three (bs ++ replicate m 0) ≡ point three bs
unfolding point x_bits y_bits coordinate
point_rest false bs m = λ i. record { x = no_more 3 3 bs m i; y = no_more 3 0 bs m i }
point_rest true bs m = λ i. record { x = no_more 2 4 bs m i; y = no_more 2 2 bs m i }

-- ---- other operands

-- b6 to b3
pub address_is : (bs : List ℕ) → address bs ≡ get_or bs 0 0 / 4 % 16
unfolding address bits_of from_top
address_is [] = refl
address_is (b ∷ bs) = from_row 4 2 b

-- b2 b1, b5 b4 b3, and b6
pub domain_is : (b : ℕ) (pel : Point) → domain_of b pel ≡ record { single = b % 4 + 1; multi = b / 4 % 8 + 1; three = eqb (b / 32 % 2) 1; pel = pel }
unfolding domain_of bit
domain_is b pel =
    let s : suc (from_top 2 (row 2 0 b)) ≡ b % 4 + 1 = omega (arith, from_row 2 0 b) in
    let m : suc (from_top 3 (row 3 2 b)) ≡ b / 4 % 8 + 1 = omega (arith, from_row 3 2 b) in
    λ i. record { single = s i; multi = m i; three = eqb (b / 32 % 2) 1; pel = pel }

-- A colour: two bits of each byte, g and h of it
module _ (g h : ℕ → ℕ) (no-g : g 0 ≡ 0) (no-h : h 0 ≡ 0) where
  abbrev both : ℕ → List ℕ
  both b = g b ∷ h b ∷ []

  bits_at : (i : ℕ) (bs : List ℕ) → (get_or (bits_of both bs) (2 * i) 0 ≡ g (get_or bs i 0)) × (get_or (bits_of both bs) (suc (2 * i)) 0 ≡ h (get_or bs i 0))
  unfolding bits_of
  bits_at i [] = (sym no-g, sym no-h)
  bits_at zero (b ∷ bs) = (refl, refl)
  bits_at (suc i) (b ∷ bs) =
      let e : 2 * suc i ≡ suc (suc (2 * i)) = omega arith in
      rw e (bits_at i bs)

  value_next : (i : ℕ) (bs : List ℕ) → from_top (2 * (i + 1)) (bits_of both bs) ≡ (from_top (2 * i) (bits_of both bs) * 2 + g (get_or bs i 0)) * 2 + h (get_or bs i 0)
  value_next i bs =
      let e : 2 * (i + 1) ≡ suc (suc (2 * i)) = omega arith in
      rw (e, from_next (suc (2 * i)) (bits_of both bs), from_next (2 * i) (bits_of both bs), (bits_at i bs).0, (bits_at i bs).1)

-- The hue of i bytes, those that never came being zero
unfoldable pub hue_after : ℕ → List ℕ → Hue
hue_after i bs =
    record {
      green = from_top (2 * i) (bits_of green_bits bs);
      red = from_top (2 * i) (bits_of red_bits bs);
      blue = from_top (2 * i) (bits_of blue_bits bs);
    }

pub hue_next : (i : ℕ) (bs : List ℕ) → hue_after (i + 1) bs ≡ with_tuples (get_or bs i 0) (hue_after i bs)
unfolding hue_after green_bits red_bits blue_bits
hue_next i bs =
    λ j. record {
      green = value_next (λ b. green (b / 8 % 8)) (λ b. green (b % 8)) refl refl i bs j;
      red = value_next (λ b. red (b / 8 % 8)) (λ b. red (b % 8)) refl refl i bs j;
      blue = value_next (λ b. blue (b / 8 % 8)) (λ b. blue (b % 8)) refl refl i bs j;
    }

-- What the code's eight bits hold
value_most : (f : ℕ → List ℕ) → ((b : ℕ) → Bits (f b)) → (i : ℕ) (bs : List ℕ) → i < 4 → from_top (2 * i) (bits_of f bs) ≤ 63
value_most f bits i bs h =
    let p : 2 ^ (2 * i) ≤ 2 ^ 6 = pow_mono {i = 2 * i} {j = 6} (omega arith) in
    omega (arith, from_lt (2 * i) (all_bits f bits bs), p)

pub hue_most : (i : ℕ) (bs : List ℕ) (x : Hue) → x ≡ hue_after i bs → i < 4 → (x.green ≤ 63) × (x.red ≤ 63) × (x.blue ≤ 63)
unfolding hue_after
hue_most i bs x e h =
    rw e (value_most green_bits green_bits_lem i bs h, value_most red_bits red_bits_lem i bs h, value_most blue_bits blue_bits_lem i bs h)

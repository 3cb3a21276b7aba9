-- The rule's test whether a sum leaves the range, as a test of the patterns' highest bits
use Rattle.std.specs.Prelude.{◌≡◌, ◌&&◌, ◌+◌, ◌-◌, ◌/◌, ◌^◌, ◌≤◌, ◌<◌, cond}
use Rattle.operands.specs.Prelude.{refl, sym, ap, ◌∙◌, Bool, true, false, not, ℕ, suc, arith, lt-ltb, le-leb, ltb-true, leb-true, leb-false, ltb, leb, eqb, pos, negsuc}
use lib.Bits.{bit_and, bit_xor, and_shr, xor_shr}
use Rattle.std.proofs.Common.{ap₂, le-ltb, ltb-false}
use Rattle.std.proofs.Math.IntN.{sub_ℕ}
use Rattle.std.proofs.lemmas.Bool.{lt-leb}
use Rattle.rules.specs.Operands.{signed, in_range, wrapped_sum, leaves_range}
use Rattle.rules.proofs.Bools.{by_test, by_truth}

-- The numbers of the low patterns, and of the high ones
low : (a : ℕ) → a < 2 ^ 31 → signed a ≡ pos a
unfolding signed
low a h = rw (lt-ltb a (2 ^ 31) h)

high : (a : ℕ) → 2 ^ 31 ≤ a → a < 2 ^ 32 → signed a ≡ negsuc (2 ^ 32 - suc a)
unfolding signed
high a h k = rw (le-ltb a (2 ^ 31) h, lt-ltb a (2 ^ 32) k)

-- A difference of two numbers of 31 bits is in range
apart : (m n : ℕ) → m < 2 ^ 31 → n ≤ 2 ^ 31 → in_range (sub_ℕ m n) ≡ true
unfolding in_range
apart m n p q = go (ltb m n) refl
  where
    go : (t : Bool) → ltb m n ≡ t → unfold in_range in (in_range (cond t (negsuc (n - suc m)) (pos (m - n))) ≡ true)
    go true e = rw (le-leb (n - suc m) (2 ^ 31 - 1) (omega (arith, ltb-true m n e)))
    go false e = lt-ltb (m - n) (2 ^ 31) (omega arith)

-- Whether a sum leaves the range, by the signs
module _ (a b s : ℕ) (fa : a < 2 ^ 32) (fb : b < 2 ^ 32) (e : s ≡ wrapped_sum a b) where
  pub low_low : a < 2 ^ 31 → b < 2 ^ 31 → leb (2 ^ 31) s ≡ leaves_range a b
  unfolding leaves_range in_range wrapped_sum
  low_low p q =
      rw (low a p, low b q)
      (by_truth (leb (2 ^ 31) s) (not (ltb (a + b) (2 ^ 31)))
      (λ t. ap not (le-ltb (a + b) (2 ^ 31) (omega (arith, leb-true (2 ^ 31) s t))))
      (λ t. ap not (lt-ltb (a + b) (2 ^ 31) (omega (arith, leb-false (2 ^ 31) s t)))))

  pub high_high : 2 ^ 31 ≤ a → 2 ^ 31 ≤ b → ltb s (2 ^ 31) ≡ leaves_range a b
  unfolding leaves_range in_range wrapped_sum
  high_high p q =
      let m = suc (2 ^ 32 - suc a + (2 ^ 32 - suc b)) in
      rw (high a p fa, high b q fb)
      (by_truth (ltb s (2 ^ 31)) (not (leb m (2 ^ 31 - 1) && true))
      (λ t. ap (λ (x : Bool). not (x && true)) (lt-leb m (2 ^ 31 - 1) (omega (arith, ltb-true s (2 ^ 31) t))))
      (λ t. ap (λ (x : Bool). not (x && true)) (le-leb m (2 ^ 31 - 1) (omega (arith, ltb-false s (2 ^ 31) t)))))

  pub low_high : a < 2 ^ 31 → 2 ^ 31 ≤ b → false ≡ leaves_range a b
  unfolding leaves_range
  low_high p q = rw (low a p, high b q fb) (ap not (sym (apart a (suc (2 ^ 32 - suc b)) p (omega arith))))

  pub high_low : 2 ^ 31 ≤ a → b < 2 ^ 31 → false ≡ leaves_range a b
  unfolding leaves_range
  high_low p q = rw (high a p fa, low b q) (ap not (sym (apart b (suc (2 ^ 32 - suc a)) q (omega arith))))

-- The same by a test by the highest bits: that of the sum is neither summand's
abbrev neither : ℕ → ℕ → ℕ → Bool
neither a b s = eqb (bit_and (bit_xor a s) (bit_xor b s)) 1

module _ (a b s : ℕ) (fa : a < 2 ^ 32) (fb : b < 2 ^ 32) (e : s ≡ wrapped_sum a b) where
  at : (x y z : ℕ) → a / 2 ^ 31 ≡ x → b / 2 ^ 31 ≡ y → s / 2 ^ 31 ≡ z → neither (a / 2 ^ 31) (b / 2 ^ 31) (s / 2 ^ 31) ≡ neither x y z
  at x y z p q r i = neither (p i) (q i) (r i)

  by_signs : neither (a / 2 ^ 31) (b / 2 ^ 31) (s / 2 ^ 31) ≡ leaves_range a b
  unfolding wrapped_sum
  by_signs =
      by_test (ltb a (2 ^ 31))
      (λ t.
      let p = ltb-true a (2 ^ 31) t in
      by_test (ltb b (2 ^ 31))
      (λ u.
      let q = ltb-true b (2 ^ 31) u in
      by_test (leb (2 ^ 31) s)
      (λ v. let r = leb-true (2 ^ 31) s v in at 0 0 1 (omega arith) (omega arith) (omega arith) ∙ sym v ∙ low_low a b s fa fb e p q)
      (λ v. let r = leb-false (2 ^ 31) s v in at 0 0 0 (omega arith) (omega arith) (omega arith) ∙ sym v ∙ low_low a b s fa fb e p q))
      (λ u.
      let q = ltb-false b (2 ^ 31) u in
      by_test (leb (2 ^ 31) s)
      (λ v. let r = leb-true (2 ^ 31) s v in at 0 1 1 (omega arith) (omega arith) (omega arith) ∙ low_high a b s fa fb e p q)
      (λ v. let r = leb-false (2 ^ 31) s v in at 0 1 0 (omega arith) (omega arith) (omega arith) ∙ low_high a b s fa fb e p q)))
      (λ t.
      let p = ltb-false a (2 ^ 31) t in
      by_test (ltb b (2 ^ 31))
      (λ u.
      let q = ltb-true b (2 ^ 31) u in
      by_test (leb (2 ^ 31) s)
      (λ v. let r = leb-true (2 ^ 31) s v in at 1 0 1 (omega arith) (omega arith) (omega arith) ∙ high_low a b s fa fb e p q)
      (λ v. let r = leb-false (2 ^ 31) s v in at 1 0 0 (omega arith) (omega arith) (omega arith) ∙ high_low a b s fa fb e p q))
      (λ u.
      let q = ltb-false b (2 ^ 31) u in
      by_test (ltb s (2 ^ 31))
      (λ v. let r = ltb-true s (2 ^ 31) v in at 1 1 0 (omega arith) (omega arith) (omega arith) ∙ sym v ∙ high_high a b s fa fb e p q)
      (λ v. let r = ltb-false s (2 ^ 31) v in at 1 1 1 (omega arith) (omega arith) (omega arith) ∙ sym v ∙ high_high a b s fa fb e p q)))

  -- A sum leaves the range where its sign is neither summand's
  pub signs_tell : eqb (bit_and (bit_xor a s) (bit_xor b s) / 2 ^ 31) 1 ≡ leaves_range a b
  signs_tell =
      ap (λ (n : ℕ). eqb n 1) (and_shr (bit_xor a s) (bit_xor b s) 31 ∙ ap₂ bit_and (xor_shr a s 31) (xor_shr b s 31)) ∙ by_signs

-- The rule's signed numbers are the patterns read as numbers of 32 bits, and a sum that stays in range is exact
use Rattle.std.specs.Prelude.{◌≡◌, ◌+◌, ◌-◌, ◌%◌, ◌^◌, ◌<◌, ◌+ℤ◌}
use Rattle.operands.specs.Prelude.{refl, sym, ap, ◌∙◌, Bool, true, false, not, ℕ, ℤ, arith, lt-ltb, le-leb, ltb-true, leb-true, ltb, leb, pos, negsuc, not-false}
use Rattle.std.specs.Bool.{FalseIff}
use Rattle.std.specs.Int.{w32, cast_signed, cast_unsigned, int_wrapping_add, int_wrap}
use Rattle.std.specs.Int.RustNames.{FitsSigned}
use Rattle.std.proofs.lemmas.Int.{of_z-to_z, wrapping_add-bits, int_wrap_fits}
use Rattle.rules.specs.Operands.{signed, in_range, wrapped_sum, leaves_range}
use Rattle.rules.proofs.Bools.{and_left}

pub signed_is : (a : ℕ) → a < 2 ^ 32 → cast_signed w32 a ≡ signed a
unfolding signed
signed_is a h = go (ltb a (2 ^ 31)) refl
  where
    go : (t : Bool) → ltb a (2 ^ 31) ≡ t → cast_signed w32 a ≡ unfold signed in (signed a)
    go true e = rw e
    go false e = rw (e, lt-ltb a (2 ^ 32) h)

-- Whether a sum is in range
fits_in : (z : ℤ) → FitsSigned w32 z → in_range z ≡ true
unfolding in_range
fits_in (pos n) f = lt-ltb n (2 ^ 31) f.sfits
fits_in (negsuc n) f = rw (le-leb n (2 ^ 31 - 1) (omega (arith, f.sfits)))

in_fits : (z : ℤ) → in_range z ≡ true → FitsSigned w32 z
unfolding in_range
in_fits (pos n) e = record { sfits = ltb-true n (2 ^ 31) e }
in_fits (negsuc n) e = record { sfits = omega (arith, leb-true n (2 ^ 31 - 1) (and_left (leb n (2 ^ 31 - 1)) true e)) }

leaves : (z : ℤ) (r : Bool) → FalseIff r (FitsSigned w32 z) → r ≡ not (in_range z)
leaves z false f = sym (ap not (fits_in z f))
leaves z true f = go (in_range z) refl
  where
    go : (t : Bool) → in_range z ≡ t → true ≡ not (in_range z)
    go true e = absurd (f (in_fits z e))
    go false e = sym (ap not e)

module _ (a b : ℕ) (fa : a < 2 ^ 32) (fb : b < 2 ^ 32) where
  -- What the code makes of the pattern of the signed sum
  pub sum_is : (x : ℤ) (r : ℕ) → x ≡ int_wrapping_add w32 (cast_signed w32 a) (cast_signed w32 b) → r ≡ cast_unsigned w32 (cast_signed w32 (cast_unsigned w32 x)) → r ≡ wrapped_sum a b
  unfolding wrapped_sum
  sum_is x r e f =
      let small : (a + b) % 2 ^ 32 < 2 ^ 32 = omega arith in
      let back = of_z-to_z w32 ((a + b) % 2 ^ 32) small in
      let sum : x ≡ cast_signed w32 ((a + b) % 2 ^ 32) = e ∙ rw (of_z-to_z w32 a fa, of_z-to_z w32 b fb) refl in
      f ∙ ap (λ (z : ℤ). cast_unsigned w32 (cast_signed w32 (cast_unsigned w32 z))) sum ∙ ap (λ (n : ℕ). cast_unsigned w32 (cast_signed w32 n)) back ∙ back

  pub tells : (r : Bool) → FalseIff r (FitsSigned w32 (cast_signed w32 a +ℤ cast_signed w32 b)) → r ≡ leaves_range a b
  unfolding leaves_range
  tells r f = leaves (signed a +ℤ signed b) r (rw (signed_is a fa, signed_is b fb) at f)

-- A sum that stays in range is the sum of the numbers
pub exact : (a b : ℕ) → a < 2 ^ 32 → b < 2 ^ 32 → leaves_range a b ≡ false → signed (wrapped_sum a b) ≡ signed a +ℤ signed b
unfolding wrapped_sum leaves_range
exact a b fa fb stays =
    let e : cast_signed w32 a +ℤ cast_signed w32 b ≡ signed a +ℤ signed b = rw (signed_is a fa, signed_is b fb) in
    let f = in_fits (signed a +ℤ signed b) (not-false _ stays) in
    sym (signed_is (wrapped_sum a b) (omega arith)) ∙ wrapping_add-bits w32 a b fa fb ∙ ap (int_wrap w32) e ∙ int_wrap_fits w32 _ f

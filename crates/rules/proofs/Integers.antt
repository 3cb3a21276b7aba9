-- The coordinates of text as integers: one stands for ahead less back, and the rules say of it what they say of that integer
use Rattle.std.specs.Prelude.{◌+◌, ◌-◌, ◌^◌, ◌<◌, ◌≤◌, ◌≡◌, ◌&&◌, ◌+ℤ◌, ◌-ℤ◌}
use Rattle.rules.specs.Prelude.{ℕ, zero, suc, refl, sym, ap, ◌∙◌, true, false}
use Rattle.rules.specs.Prelude.{arith, ltb, le_z, lt-ltb, le-ltb, lt-leb, le-leb, ltb-true, ltb-false}
use Rattle.rules.specs.Prelude.{ℤ, pos, negsuc, neg_ℤ, sub_ℕ, +ℤ_assoc, +ℤ_comm, neg_ℤ-+ℤ}
use Rattle.rules.specs.Types.{Reach, Coordinate}
use Rattle.rules.specs.Numbers.{screen_side}
use Rattle.rules.specs.Operands.{signed}
use Rattle.rules.specs.Text.{trunc256, min, max, coordinate_of, further, field_fits, held}
use Rattle.rules.proofs.Bools.{by_test}

abbrev pub value : Coordinate → ℤ
value p = sub_ℕ p.ahead p.back

sub_low : (a b : ℕ) → b ≤ a → sub_ℕ a b ≡ pos (a - b)
sub_low a b h = rw (le-ltb a b h)

sub_high : (a b : ℕ) → a < b → sub_ℕ a b ≡ negsuc (b - suc a)
sub_high a b h = rw (lt-ltb a b h)

sub_is : (a b : ℕ) → sub_ℕ a b ≡ pos a -ℤ pos b
sub_is a zero = sub_low a 0 (omega arith) ∙ ap pos (omega arith)
sub_is a (suc b) = refl

pub value_of : (n : ℕ) → value (coordinate_of n) ≡ signed n
unfolding coordinate_of signed
value_of n =
    by_test (ltb n (2 ^ 31))
    (λ e. rw e (sub_low n 0 (omega arith) ∙ ap pos (omega arith)))
    (λ e. rw e (sub_is n (2 ^ 32)))

-- Further forwards is a sum, further backwards a difference: "taken on signed numbers, not wrapped"
pub value_forwards : (n : ℕ) (p : Coordinate) → value (further true n p) ≡ value p +ℤ pos n
value_forwards n p =
    let a = pos p.ahead in
    let b = neg_ℤ (pos p.back) in
    sub_is (p.ahead + n) p.back
    ∙ +ℤ_assoc a (pos n) b
    ∙ ap (λ (z : ℤ). a +ℤ z) (+ℤ_comm (pos n) b)
    ∙ sym (+ℤ_assoc a b (pos n))
    ∙ ap (λ (z : ℤ). z +ℤ pos n) (sym (sub_is p.ahead p.back))

pub value_backwards : (n : ℕ) (p : Coordinate) → value (further false n p) ≡ value p -ℤ pos n
value_backwards n p =
    let a = pos p.ahead in
    sub_is p.ahead (p.back + n)
    ∙ ap (λ (z : ℤ). a +ℤ z) (neg_ℤ-+ℤ (pos p.back) (pos n))
    ∙ sym (+ℤ_assoc a (neg_ℤ (pos p.back)) (neg_ℤ (pos n)))
    ∙ ap (λ (z : ℤ). z -ℤ pos n) (sym (sub_is p.ahead p.back))

-- "left ≤ x ≤ U - right"
pub fits_value : (r : Reach) (p : Coordinate) → field_fits r p ≡ (le_z (pos r.before) (value p) && le_z (value p) (pos (screen_side - r.after)))
unfolding field_fits
fits_value r p = by_test (ltb p.ahead p.back) below above
  where
    below : ltb p.ahead p.back ≡ true → unfold field_fits in (field_fits r p ≡ (le_z (pos r.before) (value p) && le_z (value p) (pos (screen_side - r.after))))
    below e =
        let h = ltb-true p.ahead p.back e in
        rw (sub_high p.ahead p.back h, lt-leb p.back p.ahead h)

    above : ltb p.ahead p.back ≡ false → unfold field_fits in (field_fits r p ≡ (le_z (pos r.before) (value p) && le_z (value p) (pos (screen_side - r.after))))
    above e =
        let h = ltb-false p.ahead p.back e in
        rw (sub_low p.ahead p.back h, le-leb p.back p.ahead h)

-- The greater of an integer and a natural
unfoldable pub max_z : ℤ → ℕ → ℕ
max_z (pos n) l = max n l
max_z (negsuc n) l = l

max_value : (a b l : ℕ) → max (a - b) l ≡ max_z (sub_ℕ a b) l
unfolding max max_z
max_value a b l =
    by_test (ltb a b)
    (λ e. let h = ltb-true a b e in let z = none h in rw (sub_high a b h, z, le-leb 0 l (omega arith)))
    (λ e. rw (sub_low a b (ltb-false a b e)))
  where
    none : a < b → a - b ≡ 0
    none h = omega arith

-- "trunc256(min(max(x, left), U - right, U - 256))"
pub held_value : (r : Reach) (p : Coordinate) → held r p ≡ trunc256 (min (min (max_z (value p) r.before) (screen_side - r.after)) (screen_side - 256))
unfolding held
held_value r p = ap (λ (m : ℕ). trunc256 (min (min m (screen_side - r.after)) (screen_side - 256))) (max_value p.ahead p.back r.before)
